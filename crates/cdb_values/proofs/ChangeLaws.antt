-- Operations and their changes.
use Rattle.std.proofs.Common.{◌≡◌, ℕ, ◌+◌, ◌∷◌, [], List, refl, ◌∙◌, ap, length, arith}
use Rattle.cdb_values.specs.Changes.{changes_of, genids_taken, genids_of, genid_item, taken_by, RiseFrom}
use Rattle.cdb_values.specs.Rows.{Rows, apply_all, added, taken}
use Rattle.cdb_values.specs.declared.rows.RowOp.{RowOp}
use Rattle.cdb_values.specs.declared.rows.RowOp.TheVariants.{Insert, Update, Delete}
use Rattle.cdb_values.specs.declared.rows.RowRef.TheVariants.{Base, Own}

-- the changes of operations take away what the operations take away
pub take_the_same : (ops : List RowOp) (next : ℕ) → genids_taken (changes_of ops next) ≡ taken_by ops
take_the_same [] next = refl
take_the_same (Insert table row ∷ ops) next = take_the_same ops (next + 1)
take_the_same (Update table (Base genid) old row ∷ ops) next = ap (λ l. genid_item table genid ∷ l) (take_the_same ops (next + 1))
take_the_same (Update table (Own write) old row ∷ ops) next = take_the_same ops next
take_the_same (Delete table (Base genid) old ∷ ops) next = ap (λ l. genid_item table genid ∷ l) (take_the_same ops next)
take_the_same (Delete table (Own write) old ∷ ops) next = take_the_same ops next

-- the genids of the versions that they add rise from the next one on
pub rise : (ops : List RowOp) (next : ℕ) → RiseFrom next (genids_of (changes_of ops next))
rise [] next = tt
rise (Insert table row ∷ ops) next = (refl, rise ops (next + 1))
rise (Update table (Base genid) old row ∷ ops) next = (refl, rise ops (next + 1))
rise (Update table (Own write) old row ∷ ops) next = rise ops next
rise (Delete table (Base genid) old ∷ ops) next = rise ops next
rise (Delete table (Own write) old ∷ ops) next = rise ops next

one_more : (next : ℕ) (genids : List ℕ) → (next + 1) + length genids ≡ next + length (next ∷ genids)
one_more next genids = omega arith

none_more : (next : ℕ) → next ≡ next + 0
none_more next = omega arith

-- the next genid after operations is above the one before them by as many
pub next_after : (rows : Rows) (ops : List RowOp) → (apply_all rows ops).next ≡ rows.next + length (genids_of (changes_of ops rows.next))
next_after rows [] = none_more rows.next
next_after rows (Insert table row ∷ ops) = next_after (added rows table row) ops ∙ one_more rows.next (genids_of (changes_of ops (rows.next + 1)))
next_after rows (Update table (Base genid) old row ∷ ops) =
    next_after (added (taken rows table genid) table row) ops ∙ one_more rows.next (genids_of (changes_of ops (rows.next + 1)))
next_after rows (Update table (Own write) old row ∷ ops) = next_after rows ops
next_after rows (Delete table (Base genid) old ∷ ops) = next_after (taken rows table genid) ops
next_after rows (Delete table (Own write) old ∷ ops) = next_after rows ops
