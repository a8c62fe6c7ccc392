-- The steps by which one more write is held: the own write that it names is taken out, and it stands for what that
-- one was held as, with its own row.
use Rattle.std.specs.Prelude.{ℕ, List, Option, Some, None}
use Rattle.cdb_values.specs.declared.rows.RowOp.{RowOp}
use Rattle.cdb_values.specs.declared.rows.RowOp.TheVariants.{Insert, Update, Delete}
use Rattle.cdb_values.specs.declared.rows.RowRef.{RowRef}
use Rattle.cdb_values.specs.declared.rows.RowRef.TheVariants.{Base, Own}
use Rattle.cdb_values.specs.declared.values.Value.{Value}
use Rattle.net_writes.specs.Net.{held_at, taken_out, rewritten, undone}

-- what a target was held as, where it is an own write
abbrev pub own_held : List (Option RowOp) → RowRef → Option RowOp
own_held held (Base genid) = None
own_held held (Own write) = held_at held write

abbrev pub own_out : List (Option RowOp) → RowRef → List (Option RowOp)
own_out held (Base genid) = held
own_out held (Own write) = taken_out held write

-- the same of the target of a write
abbrev pub held_by : List (Option RowOp) → RowOp → Option RowOp
held_by held (Insert table row) = None
held_by held (Update table target old row) = own_held held target
held_by held (Delete table target old) = own_held held target

abbrev pub out_by : List (Option RowOp) → RowOp → List (Option RowOp)
out_by held (Insert table row) = held
out_by held (Update table target old row) = own_out held target
out_by held (Delete table target old) = own_out held target

-- what a write stands for, where this is what its target was held as
abbrev pub update_over : Option RowOp → ℕ → RowRef → List Value → List Value → Option RowOp
update_over taken table (Base genid) old row = Some (Update table (Base genid) old row)
update_over taken table (Own write) old row = rewritten taken row

abbrev pub delete_over : Option RowOp → ℕ → RowRef → List Value → Option RowOp
delete_over taken table (Base genid) old = Some (Delete table (Base genid) old)
delete_over taken table (Own write) old = undone taken

abbrev pub stands_for : Option RowOp → RowOp → Option RowOp
stands_for taken (Insert table row) = Some (Insert table row)
stands_for taken (Update table target old row) = update_over taken table target old row
stands_for taken (Delete table target old) = delete_over taken table target old
