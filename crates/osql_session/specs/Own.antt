-- A write that names an operation of its own transaction: the place of that one, and what takes its place.
use Rattle.std.specs.Prelude.{ℕ, ◌+◌, ◌-◌, ◌++◌, ◌==◌, ◌||◌, [], List, ◌∷◌, if◌then◌else◌, nat_lt, take, drop, Option, Some, None}
use Rattle.cdb_values.specs.declared.limits.TheConstants.{MOST_NET_OPERATIONS}
use Rattle.cdb_values.specs.declared.rows.RowOp.{RowOp}
use Rattle.cdb_values.specs.declared.rows.RowOp.TheVariants.{Insert, Update, Delete}
use Rattle.cdb_values.specs.declared.rows.RowRef.{RowRef}
use Rattle.cdb_values.specs.declared.rows.RowRef.TheVariants.{Base, Own}

-- the place of the operation of a number, from 1, among so many
abbrev pub place_of_own : ℕ → RowRef → Option ℕ
place_of_own ops (Base genid) = None
place_of_own ops (Own number) = if number == 0 || nat_lt ops number then None else Some (number - 1)

abbrev pub named : ℕ → RowOp → Option ℕ
named ops (Insert table row) = None
named ops (Update table target old row) = place_of_own ops target
named ops (Delete table target old) = place_of_own ops target

-- the place that writes name, where they are one write, and the operations are no more than there may be
abbrev pub place_alone : ℕ → List RowOp → Option ℕ
place_alone ops [] = None
place_alone ops (write ∷ []) = if nat_lt MOST_NET_OPERATIONS ops then None else named ops write
place_alone ops (write ∷ other ∷ writes) = None

-- a write that names the first write in place of an own one
abbrev pub on_first : RowOp → RowOp
on_first (Insert table row) = Insert table row
on_first (Update table (Base genid) old row) = Update table (Base genid) old row
on_first (Update table (Own number) old row) = Update table (Own 1) old row
on_first (Delete table (Base genid) old) = Delete table (Base genid) old
on_first (Delete table (Own number) old) = Delete table (Own 1) old

-- operations without the one of a place, and these at the end
abbrev pub exchanged : List RowOp → ℕ → List RowOp → List RowOp
exchanged ops at now = (take at ops ++ drop (at + 1) ops) ++ now
