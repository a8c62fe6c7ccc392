use Rattle.std.proofs.Common.{refl}
use Rattle.cluster_reports.proofs.NodesRuns.{without_master}
use Rattle.cluster_reports.proofs.MasterlessRuns.{report}
use Rattle.cluster_reports.proofs.runs_without_a_master_are_lawful.Goals as goal

pub returns : goal.returns
returns c = λ G h r fits follows legal done top none. (report G fits h legal done.sessions r top none, refl, refl, refl, without_master G fits follows h legal done r top none)
