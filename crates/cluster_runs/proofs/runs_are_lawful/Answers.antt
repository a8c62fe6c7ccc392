use Rattle.std.proofs.Common.{refl}
use Rattle.core_lists.proofs.Fronts.{front_rest}
use Rattle.cluster_reports.proofs.NodesRuns.{with_master, without_master}
use Rattle.cluster_reports.proofs.LawfulRuns.{begins', report}
use Rattle.cluster_reports.proofs.MasterlessRuns as masterless
use Rattle.cluster_runs.proofs.RunLaws.{finished}
use Rattle.cluster_runs.proofs.runs_are_lawful.Goals as goal
use Rattle.cluster_steps.specs.Named.{steps}
use Rattle.cluster_steps.proofs.StepLaws.{legal_steps}

pub returns-clause-with_master : goal.returns-clause-with_master
returns-clause-with_master c = λ G h r m a fits follows legal none done top first. (
  report G fits (steps G h) (legal_steps G h legal) (finished G h legal none done).sessions r top m a first,
  refl,
  (let own = front_rest (begins' G fits (steps G h) (legal_steps G h legal) (finished G h legal none done).sessions r top m a first) in (own.0, own.1, refl)),
  refl,
  with_master G fits follows (steps G h) (legal_steps G h legal) (finished G h legal none done) r m a top first,
)

pub returns-clause-without_master : goal.returns-clause-without_master
returns-clause-without_master c = λ G h r fits follows legal none done top no_master. (
  masterless.report G fits (steps G h) (legal_steps G h legal) (finished G h legal none done).sessions r top no_master,
  refl,
  refl,
  refl,
  without_master G fits follows (steps G h) (legal_steps G h legal) (finished G h legal none done) r top no_master,
)
