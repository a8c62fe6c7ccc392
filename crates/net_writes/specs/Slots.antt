-- The writes of a transaction by their numbers, and by the places of what they stand for among the net
-- operations.
--
-- Writes that are kept up one after the other leave places that stand for nothing. A statement names
-- an own write by its place among the net operations; who keeps the writes up may name it by its number
-- instead, and comes to the same net operations.
use Rattle.std.specs.Prelude.{◌≡◌, ℕ, ◌++◌, [], List, take, map, length, Option, Some, None}
use Rattle.std.specs.List.{AllByRecursion}
use Rattle.cdb_values.specs.declared.rows.RowOp.{RowOp}
use Rattle.cdb_values.specs.declared.rows.RowOp.TheVariants.{Insert, Update, Delete}
use Rattle.cdb_values.specs.declared.rows.RowRef.{RowRef}
use Rattle.cdb_values.specs.declared.rows.RowRef.TheVariants.{Base, Own}
use Rattle.net_writes.specs.Net.{held_at, held_after, standing, net_of}

-- the place, from 1, of what the write of that number stands for among the net operations
abbrev pub place_of : List (Option RowOp) → ℕ → ℕ
place_of held write = length (standing (take write held))

-- a target by that place
abbrev pub placed : List (Option RowOp) → RowRef → RowRef
placed held (Base genid) = Base genid
placed held (Own write) = Own (place_of held write)

-- a write with its target by that place
abbrev pub with_place : List (Option RowOp) → RowOp → RowOp
with_place held (Insert table row) = Insert table row
with_place held (Update table target old row) = Update table (placed held target) old row
with_place held (Delete table target old) = Delete table (placed held target) old

-- a target by number is of a write that stands for something
abbrev pub IsStanding : Option RowOp → Type 0
IsStanding None = ⊥
IsStanding (Some op) = Unit {0}

abbrev pub IsStandingTarget : List (Option RowOp) → RowRef → Type 0
IsStandingTarget held (Base genid) = Unit {0}
IsStandingTarget held (Own write) = IsStanding (held_at held write)

abbrev pub TakesStanding : List (Option RowOp) → RowOp → Type 0
TakesStanding held (Insert table row) = Unit {0}
TakesStanding held (Update table target old row) = IsStandingTarget held target
TakesStanding held (Delete table target old) = IsStandingTarget held target

-- the law: after any writes, more of them that name their targets by number leave the net operations
-- that they leave where they name them by place behind the net operations so far
abbrev pub NumbersAreAsGood : Type 0
NumbersAreAsGood = (ops writes : List RowOp) → AllByRecursion (TakesStanding (held_after [] ops)) writes
    → standing (held_after (held_after [] ops) writes) ≡ net_of (net_of ops ++ map (with_place (held_after [] ops)) writes)
