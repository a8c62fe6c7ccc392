use Rattle.cluster_reports.proofs.SteadyLaws.{steady}
use Rattle.cluster_reports.proofs.sessions_pass_barriers_steadily.Goals as goal

pub returns : goal.returns
returns c = steady
