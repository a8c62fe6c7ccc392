-- nothing of other stamps is gone
use Rattle.std.proofs.Common.{◌-◌, length}
use Rattle.own_writes.specs.Kept.{KeepsOthers}
use Rattle.own_writes.proofs.keeping.unmark_row.Given as goal

abbrev pub invariant-columns : goal.invariant-columns
invariant-columns l = KeepsOthers l.stamp l.fn.marks l.marks

abbrev pub decreases-columns : goal.decreases-columns
decreases-columns l = length l.row - l.column
