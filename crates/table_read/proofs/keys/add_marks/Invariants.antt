use Rattle.std.proofs.Common.{◌≡◌, ◌++◌, length, flat_map}
use Rattle.table_read.specs.Keys.{keys_of_mark}
use Rattle.table_read.proofs.keys.add_marks.Given as goal

abbrev pub invariant-marks : goal.invariant-marks
invariant-marks l = l.keys ++ flat_map (keys_of_mark l.column) l.rest ≡ l.fn.keys ++ flat_map (keys_of_mark l.column) l.marks

abbrev pub decreases-marks : goal.decreases-marks
decreases-marks l = length l.rest
