use Rattle.std.proofs.Common.{sym, subst, ap}
use Rattle.cluster_events.specs.Settings.{Setting}
use Rattle.cluster_steps.specs.Guards.{IsPlan}
use Rattle.node_cases.proofs.PlanLaws.{is_plan}
use Rattle.node_cases.proofs.offices.Operator.plan.Goals as goal

pub returns-clause-tables : goal.returns-clause-tables
returns-clause-tables g c = ap (λ (S : Setting). S.tables) c.self.invariant.plan

pub returns-clause-nodes : goal.returns-clause-nodes
returns-clause-nodes g c = ap (λ (S : Setting). S.nodes) c.self.invariant.plan

pub returns-clause-is_plan : goal.returns-clause-is_plan
returns-clause-is_plan g c = subst (λ S. IsPlan S) (sym c.self.invariant.plan) (is_plan c.self.inside.orders.items)
