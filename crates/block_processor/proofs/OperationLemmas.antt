-- Operations one after the other: the changes that they are, and how far they raise the next genid.
use Rattle.std.proofs.Common.{◌≡◌, ℕ, ◌+◌, ◌≤◌, List, [], ◌∷◌, ◌++◌, length, refl, arith}
use Rattle.cdb_values.specs.Changes.{changes_of}
use Rattle.cdb_values.specs.Rows.{Rows, apply, apply_all}
use Rattle.cdb_values.specs.declared.rows.RowOp.{RowOp}
use Rattle.cdb_values.specs.declared.rows.RowOp.TheVariants.{Insert, Update, Delete}
use Rattle.cdb_values.specs.declared.rows.RowRef.TheVariants.{Base, Own}
use Rattle.table_changes.specs.Changed.{next_of}

-- the changes of an operation and of those after it
pub changes_more : (op : RowOp) (ops : List RowOp) (next : ℕ) → changes_of (op ∷ ops) next ≡ changes_of (op ∷ []) next ++ changes_of ops (next_of next op)
changes_more (Insert table row) ops next = refl
changes_more (Update table (Base genid) old row) ops next = refl
changes_more (Update table (Own write) old row) ops next = refl
changes_more (Delete table (Base genid) old) ops next = refl
changes_more (Delete table (Own write) old) ops next = refl

applied_next : (rows : Rows) (op : RowOp) → (apply rows op).next ≤ rows.next + 1
applied_next rows (Insert table row) = omega arith
applied_next rows (Update table (Base genid) old row) = omega arith
applied_next rows (Update table (Own write) old row) = omega arith
applied_next rows (Delete table (Base genid) old) = omega arith
applied_next rows (Delete table (Own write) old) = omega arith

pub next_below : (ops : List RowOp) (rows : Rows) → (apply_all rows ops).next ≤ rows.next + length ops
next_below [] rows = omega arith
next_below (op ∷ ops) rows =
    let one : (apply rows op).next ≤ rows.next + 1 = applied_next rows op in
    let all : (apply_all (apply rows op) ops).next ≤ (apply rows op).next + length ops = next_below ops (apply rows op) in
    omega arith
