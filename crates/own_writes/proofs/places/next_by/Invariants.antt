-- the rows of the places so far lack a value of the columns so far
use Rattle.std.proofs.Common.{◌≡◌, ℕ, ◌<◌, ◌≤◌, List, false, length}
use Rattle.cdb_values.specs.declared.values.Value.{Value}
use Rattle.session_language.specs.Intervals.{are_equal}
use Rattle.own_writes.specs.Kept.{HasColumns, stamp_at}
use Rattle.own_writes.proofs.places.next_by.Given as goal

abbrev pub invariant-values : goal.invariant-values
invariant-values l = record {
  later : l.from ≤ l.at;
  within : l.from ≤ length l.stamps → l.at ≤ length l.stamps;
  behind : length l.stamps ≤ l.from → l.at ≡ l.from;
  passed : (k : ℕ) (row : List Value) → l.from ≤ k → k < l.at → k < length l.stamps → HasColumns l.marks (stamp_at l.stamps k) l.table row → are_equal l.columns l.values row ≡ false;
  left : (row : List Value) → are_equal l.rest l.left row ≡ false → are_equal l.columns l.values row ≡ false;
}

abbrev pub decreases-values : goal.decreases-values
decreases-values l = length l.left
