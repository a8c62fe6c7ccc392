-- What each operation has, the net operations have: an update of an own write has its own row, and the rest is of writes.
use Rattle.std.proofs.Common.{ℕ, ◌-◌, ◌==◌, List, [], ◌∷◌, Bool, true, false, cond, Option, Some, None}
use Rattle.std.specs.Prelude.{slice_set}
use Rattle.std.specs.List.{AllByRecursion}
use Rattle.cdb_values.specs.declared.rows.RowOp.{RowOp}
use Rattle.cdb_values.specs.declared.rows.RowOp.TheVariants.{Insert, Update, Delete}
use Rattle.cdb_values.specs.declared.rows.RowRef.TheVariants.{Base, Own}
use Rattle.cdb_values.specs.declared.values.Value.{Value}
use Rattle.net_writes.specs.Net.{held_at, taken_out, rewritten, undone, held_with, held_after, standing, net_of}
use Rattle.session_language.proofs.EachLaws.{all_append}
use Rattle.session_language.proofs.AllLaws.{all_exchanged}
use Rattle.session_language.specs.Spelled.{IsToldRow, WritesRow}

abbrev Holds : Option RowOp → Type 0
Holds None = Unit {0}
Holds (Some op) = WritesRow op

abbrev HoldsAt : Option (Option RowOp) → Type 0
HoldsAt None = Unit {0}
HoldsAt (Some held) = Holds held

taken_holds : (held : List (Option RowOp)) (write : ℕ) → AllByRecursion Holds held → AllByRecursion Holds (taken_out held write)
taken_holds held write all = go (write == 0)
  where
    go : (b : Bool) → AllByRecursion Holds (cond b held (slice_set held (write - 1) None))
    go true = all
    go false = all_exchanged Holds held (write - 1) None all tt

rewritten_holds : (held : Option RowOp) (row : List Value) → IsToldRow row → Holds (rewritten held row)
rewritten_holds None row is = tt
rewritten_holds (Some (Insert table written)) row is = is
rewritten_holds (Some (Update table target old written)) row is = is
rewritten_holds (Some (Delete table target old)) row is = tt

undone_holds : (held : Option RowOp) → Holds (undone held)
undone_holds None = tt
undone_holds (Some (Insert table written)) = tt
undone_holds (Some (Update table target old written)) = tt
undone_holds (Some (Delete table target old)) = tt

with_holds : (held : List (Option RowOp)) (op : RowOp) → AllByRecursion Holds held → WritesRow op → AllByRecursion Holds (held_with held op)
with_holds held (Insert table row) all is = all_append Holds held (Some (Insert table row) ∷ []) all (is, tt)
with_holds held (Update table (Base genid) old row) all is = all_append Holds held (Some (Update table (Base genid) old row) ∷ []) all (is, tt)
with_holds held (Update table (Own write) old row) all is =
    all_append Holds (taken_out held write) (rewritten (held_at held write) row ∷ []) (taken_holds held write all) (rewritten_holds (held_at held write) row is, tt)
with_holds held (Delete table (Base genid) old) all is = all_append Holds held (Some (Delete table (Base genid) old) ∷ []) all (tt, tt)
with_holds held (Delete table (Own write) old) all is =
    all_append Holds (taken_out held write) (undone (held_at held write) ∷ []) (taken_holds held write all) (undone_holds (held_at held write), tt)

after_holds : (held : List (Option RowOp)) (ops : List RowOp) → AllByRecursion Holds held → AllByRecursion WritesRow ops → AllByRecursion Holds (held_after held ops)
after_holds held [] all are = all
after_holds held (op ∷ ops) all are = after_holds (held_with held op) ops (with_holds held op all are.0) are.1

standing_writes : (held : List (Option RowOp)) → AllByRecursion Holds held → AllByRecursion WritesRow (standing held)
standing_writes [] all = tt
standing_writes (None ∷ held) all = standing_writes held all.1
standing_writes (Some op ∷ held) all = (all.0, standing_writes held all.1)

-- the net operations of writes that write rows of the grammar write such rows
pub net_writes_rows : (ops : List RowOp) → AllByRecursion WritesRow ops → AllByRecursion WritesRow (net_of ops)
net_writes_rows ops all = standing_writes (held_after [] ops) (after_holds [] ops tt all)
