-- the columns so far have their marks, and nothing is gone
use Rattle.std.proofs.Common.{◌≡◌, ℕ, ◌<◌, ◌-◌, true, length}
use Rattle.std.specs.Prelude.{slice_get, Some}
use Rattle.cdb_values.specs.declared.values.Value.{Value}
use Rattle.own_writes.specs.Kept.{has, Keeps}
use Rattle.own_writes.specs.Marks.{column_mark}
use Rattle.own_writes.proofs.keeping.mark_row.Given as goal

abbrev pub invariant-columns : goal.invariant-columns
invariant-columns l = record {
  marked : (column : ℕ) (value : Value) → column < l.column → slice_get l.row column ≡ Some value → has l.marks (column_mark l.table column value) l.stamp ≡ true;
  keeps : Keeps l.fn.marks l.marks;
}

abbrev pub decreases-columns : goal.decreases-columns
decreases-columns l = length l.row - l.column
