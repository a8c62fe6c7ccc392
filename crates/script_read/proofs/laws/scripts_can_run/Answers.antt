use Rattle.script_read.proofs.LawLemmas.{scripts_run}
use Rattle.script_read.proofs.laws.scripts_can_run.Goals as goal

pub returns : goal.returns
returns c = scripts_run
