use Rattle.cluster_runs.proofs.PlanLaws.{plan_of}
use Rattle.cluster_runs.proofs.scripts_are_plans.Goals as goal

pub returns : goal.returns
returns c = plan_of
