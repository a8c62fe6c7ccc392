use Rattle.cluster_runs.proofs.WrittenLaws.{follows}
use Rattle.cluster_runs.proofs.scripts_have_settings.Goals as goal

pub returns : goal.returns
returns c = follows
