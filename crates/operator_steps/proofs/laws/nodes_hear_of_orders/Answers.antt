use Rattle.operator_steps.proofs.StepLaws.{node_may_start, node_may_stop}
use Rattle.operator_steps.proofs.laws.nodes_hear_of_orders.Goals as goal

pub returns-clause-stop : goal.returns-clause-stop
returns-clause-stop c = node_may_stop

pub returns-clause-start : goal.returns-clause-start
returns-clause-start c = node_may_start
