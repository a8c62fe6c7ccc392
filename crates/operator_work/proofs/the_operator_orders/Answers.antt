use Rattle.operator_work.proofs.DutyLaws.{may_order, ordered_then, start_ordered, start_stays, stop_ordered, stop_stays}
use Rattle.operator_work.proofs.the_operator_orders.Goals as goal

pub returns-clause-may : goal.returns-clause-may
returns-clause-may c = may_order

pub returns-clause-then : goal.returns-clause-then
returns-clause-then c = ordered_then

pub returns-clause-stop : goal.returns-clause-stop
returns-clause-stop c = stop_ordered

pub returns-clause-start : goal.returns-clause-start
returns-clause-start c = start_ordered

pub returns-clause-stays : goal.returns-clause-stays
returns-clause-stays c = λ G later h node own. (stop_stays G later h node own, start_stays G later h node own)
