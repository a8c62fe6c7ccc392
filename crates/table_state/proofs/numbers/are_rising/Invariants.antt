use Rattle.std.proofs.Common.{◌≡◌, length}
use Rattle.table_state.specs.Numbers.{rise_from}
use Rattle.table_state.proofs.numbers.are_rising.Given as goal

abbrev pub invariant-rising : goal.invariant-rising
invariant-rising l = rise_from l.low l.limit l.rest ≡ rise_from l.least l.limit l.numbers

abbrev pub decreases-rising : goal.decreases-rising
decreases-rising l = length l.rest
