use Rattle.operator_work.proofs.DutyLaws.{down_then, fell_then, up_stays, up_then}
use Rattle.operator_work.proofs.nodes_heed_orders.Goals as goal

pub returns-clause-stays : goal.returns-clause-stays
returns-clause-stays c = up_stays

pub returns-clause-down : goal.returns-clause-down
returns-clause-down c = down_then

pub returns-clause-up : goal.returns-clause-up
returns-clause-up c = up_then

pub returns-clause-fell : goal.returns-clause-fell
returns-clause-fell c = fell_then
