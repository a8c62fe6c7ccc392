-- What a transaction sees of its operations is what they make of the rows.
--
-- On a base, operations name its tables and versions of a genid below its next one. A transaction
-- sees the rows of the base that its operations did not take away and then its own, in the order
-- in which they were written. These are the rows, in the same order, of the base with the
-- operations applied one after the other.
use Rattle.std.specs.Prelude.{◌≡◌, ℕ, ◌<◌, List, map, length}
use Rattle.std.specs.List.{AllByRecursion}
use Rattle.cdb_values.specs.Rows.{Rows, versions_of, view, apply_all}
use Rattle.cdb_values.specs.declared.rows.RowOp.{RowOp}
use Rattle.cdb_values.specs.declared.rows.RowOp.TheVariants.{Insert, Update, Delete}
use Rattle.cdb_values.specs.declared.rows.RowRef.{RowRef}
use Rattle.cdb_values.specs.declared.rows.RowRef.TheVariants.{Base, Own}
use Rattle.cdb_values.specs.declared.values.Value.{Value}

-- a target that a base of that next genid can have
abbrev pub IsBase : ℕ → RowRef → Type 0
IsBase next (Base genid) = genid < next
IsBase next (Own write) = ⊥

-- an operation on a base of so many tables and of that next genid
abbrev pub IsOnBase : ℕ → ℕ → RowOp → Type 0
IsOnBase tables next (Insert table row) = table < tables
IsOnBase tables next (Update table target old row) = (table < tables) × IsBase next target
IsOnBase tables next (Delete table target old) = (table < tables) × IsBase next target

-- the rows of a table, in the order of its versions
abbrev pub table_rows : Rows → ℕ → List (List Value)
table_rows rows table = map (λ v. v.row) (versions_of rows table)

-- what operations on a base show is what they make of it
abbrev pub ViewIsApplied : Rows → List RowOp → ℕ → Type 0
ViewIsApplied rows ops table = AllByRecursion (IsOnBase (length rows.tables) rows.next) ops → view rows ops table ≡ table_rows (apply_all rows ops) table

-- the law, on every base
abbrev pub ViewsAreApplied : Type 0
ViewsAreApplied = (rows : Rows) (ops : List RowOp) (table : ℕ) → ViewIsApplied rows ops table

-- a target that is named by its genid
abbrev pub IsByGenid : RowRef → Type 0
IsByGenid (Base genid) = Unit {0}
IsByGenid (Own write) = ⊥

-- an operation on one of so many tables, whose target is named by its genid
abbrev pub IsBased : ℕ → RowOp → Type 0
IsBased tables (Insert table row) = table < tables
IsBased tables (Update table target old row) = (table < tables) × IsByGenid target
IsBased tables (Delete table target old) = (table < tables) × IsByGenid target
