-- no write of the places so far takes the version away
use Rattle.std.proofs.Common.{◌≡◌, ℕ, ◌<◌, ◌-◌, false, length}
use Rattle.std.specs.Prelude.{slice_get, Some}
use Rattle.cdb_values.specs.Rows.{takes}
use Rattle.cdb_values.specs.declared.rows.RowOp.{RowOp}
use Rattle.own_writes.proofs.places.is_taken.Given as goal

abbrev pub invariant-places : goal.invariant-places
invariant-places l = (k : ℕ) (op : RowOp) → k < l.at → slice_get l.ops k ≡ Some op → takes l.table l.genid op ≡ false

abbrev pub decreases-places : goal.decreases-places
decreases-places l = length l.ops - l.at
