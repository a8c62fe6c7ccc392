use Rattle.live_operations.proofs.ReadyLaws.{alone_fit, alone_are_doable, later_are_doable}
use Rattle.live_operations.proofs.laws.transactions_can_be_done.Goals as goal

pub returns : goal.returns
returns c = record { fit = alone_fit; alone = alone_are_doable; later = later_are_doable }
