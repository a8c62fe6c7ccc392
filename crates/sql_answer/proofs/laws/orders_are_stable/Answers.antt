use Rattle.sql_answer.proofs.OrderLaws.{ordered_in_order, ordered_stable}
use Rattle.sql_answer.proofs.laws.orders_are_stable.Goals as goal

pub returns : goal.returns
returns c = record { in_order = ordered_in_order; stable = ordered_stable }
