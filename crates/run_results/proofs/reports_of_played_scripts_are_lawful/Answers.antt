use Rattle.run_results.proofs.FinishedLaws.{played_is_lawful}
use Rattle.run_results.proofs.reports_of_played_scripts_are_lawful.Goals as goal

pub returns : goal.returns
returns c = played_is_lawful
