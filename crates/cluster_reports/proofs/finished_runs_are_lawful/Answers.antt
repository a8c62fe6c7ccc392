use Rattle.std.proofs.Common.{refl}
use Rattle.core_lists.proofs.Fronts.{front_rest}
use Rattle.cluster_reports.proofs.NodesRuns.{with_master}
use Rattle.cluster_reports.proofs.LawfulRuns.{begins', report}
use Rattle.cluster_reports.proofs.finished_runs_are_lawful.Goals as goal

pub returns : goal.returns
returns c = λ G h r m a fits follows legal done top first. (report G fits h legal done.sessions r top m a first, refl, (let own = front_rest (begins' G fits h legal done.sessions r top m a first) in (own.0, own.1, refl)), refl, with_master G fits follows h legal done r m a top first)
