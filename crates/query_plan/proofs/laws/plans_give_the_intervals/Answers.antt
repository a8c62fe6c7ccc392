use Rattle.query_plan.proofs.PlanLemmas.{planned_table, planned_interval}
use Rattle.query_plan.proofs.laws.plans_give_the_intervals.Goals as goal

pub returns : goal.returns
returns c = record { table = λ tables conditions places at p is. planned_table tables conditions 0 places at p is; interval = planned_interval }
