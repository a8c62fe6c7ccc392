-- The version that an operation takes away.
--
-- An operation names its target by a genid, or by the number of an own earlier write, from 1.
-- `made` has the genid that each write of the transaction gave, in order, and 0 for a delete. An
-- own write that is not there, or that gave no genid, names nothing.
use Rattle.std.specs.Prelude.{ℕ, ◌-◌, ◌==◌, List, Bool, true, false, if◌then◌else◌, slice_get, Option, Some, None}
use Rattle.cdb_values.specs.Rows.{Rows, is_live}
use Rattle.cdb_values.specs.declared.rows.RowOp.{RowOp}
use Rattle.cdb_values.specs.declared.rows.RowOp.TheVariants.{Insert, Update, Delete}
use Rattle.cdb_values.specs.declared.rows.RowRef.{RowRef}
use Rattle.cdb_values.specs.declared.rows.RowRef.TheVariants.{Base, Own}

-- a genid, where it is one: genids are drawn from 1 upwards
abbrev pub genid_of : Option ℕ → Option ℕ
genid_of None = None
genid_of (Some genid) = if genid == 0 then None else Some genid

-- the genid that the own write of this number gave, if it gave one
abbrev pub own_genid : List ℕ → ℕ → Option ℕ
own_genid made write = if write == 0 then None else genid_of (slice_get made (write - 1))

-- the genid that a reference names, if it names one
abbrev pub resolved : List ℕ → RowRef → Option ℕ
resolved made (Base genid) = Some genid
resolved made (Own write) = own_genid made write

-- a reference by the genid that it names; it stays as it is where it names none
abbrev pub or_own : RowRef → Option ℕ → RowRef
or_own target None = target
or_own target (Some genid) = Base genid

-- an operation with its target by genid
abbrev pub based : List ℕ → RowOp → RowOp
based made (Insert table row) = Insert table row
based made (Update table target old row) = Update table (or_own target (resolved made target)) old row
based made (Delete table target old) = Delete table (or_own target (resolved made target)) old

-- the place of an operation's table
abbrev pub table_of : RowOp → ℕ
table_of (Insert table row) = table
table_of (Update table target old row) = table
table_of (Delete table target old) = table

-- whether a version with that genid, if there is a genid, is in the table now
abbrev pub is_genid_live : Rows → ℕ → Option ℕ → Bool
is_genid_live rows table None = false
is_genid_live rows table (Some genid) = is_live rows table genid

-- whether an operation's target is in its table now; an insert has no target to miss
abbrev pub is_target_live : Rows → List ℕ → RowOp → Bool
is_target_live rows made (Insert table row) = true
is_target_live rows made (Update table target old row) = is_genid_live rows table (resolved made target)
is_target_live rows made (Delete table target old) = is_genid_live rows table (resolved made target)

-- the genid that an operation gives: the next one, and none for a delete
abbrev pub given : Rows → RowOp → Option ℕ
given rows (Insert table row) = Some rows.next
given rows (Update table target old row) = Some rows.next
given rows (Delete table target old) = None
