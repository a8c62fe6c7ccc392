use Rattle.trace_order.proofs.DoneLaws.{done_is_history}
use Rattle.trace_order.proofs.the_history_is_what_was_done.Goals as goal

pub returns : goal.returns
returns g c = λ n actors log done all h d. done_is_history g.M.Machine.enabled n actors log done all h d
