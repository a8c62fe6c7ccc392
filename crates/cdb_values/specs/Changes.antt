-- What an entry changes: the changes of a transaction's operations, in order.
--
-- A change is an operation with its genids: that of the version that it takes away, if it takes one,
-- and that of the version that it adds, if it adds one. The versions that are added get the next
-- genid, the one after it, and so on. An operation on an own write stands for no change: operations
-- of a commit name versions of the base alone.
use Rattle.std.specs.Prelude.{◌≡◌, ℕ, ◌+◌, ◌∷◌, [], List, length}
use Rattle.cdb_values.specs.Rows.{Rows, apply_all}
use Rattle.cdb_values.specs.declared.items.GenidItem.{GenidItem}
use Rattle.cdb_values.specs.declared.rows.Change.{Change}
use Rattle.cdb_values.specs.declared.rows.Change.TheVariants as change
use Rattle.cdb_values.specs.declared.rows.RowOp.{RowOp}
use Rattle.cdb_values.specs.declared.rows.RowOp.TheVariants.{Insert, Update, Delete}
use Rattle.cdb_values.specs.declared.rows.RowRef.TheVariants.{Base, Own}

-- the changes of these operations, where the first version that they add gets that genid
abbrev pub changes_of : List RowOp → ℕ → List Change
changes_of [] next = []
changes_of (Insert table row ∷ ops) next = change.Insert table next row ∷ changes_of ops (next + 1)
changes_of (Update table (Base genid) old row ∷ ops) next = change.Update table genid old next row ∷ changes_of ops (next + 1)
changes_of (Update table (Own write) old row ∷ ops) next = changes_of ops next
changes_of (Delete table (Base genid) old ∷ ops) next = change.Delete table genid old ∷ changes_of ops next
changes_of (Delete table (Own write) old ∷ ops) next = changes_of ops next

-- a version, by its table and its genid
abbrev pub genid_item : ℕ → ℕ → GenidItem
genid_item table genid = record { table = table; genid = genid }

-- the versions that changes take away, in order
abbrev pub genids_taken : List Change → List GenidItem
genids_taken [] = []
genids_taken (change.Insert table genid row ∷ changes) = genids_taken changes
genids_taken (change.Update table old_genid old genid row ∷ changes) = genid_item table old_genid ∷ genids_taken changes
genids_taken (change.Delete table old_genid old ∷ changes) = genid_item table old_genid ∷ genids_taken changes

-- the genids of the versions that changes add, in order
abbrev pub genids_of : List Change → List ℕ
genids_of [] = []
genids_of (change.Insert table genid row ∷ changes) = genid ∷ genids_of changes
genids_of (change.Update table old_genid old genid row ∷ changes) = genid ∷ genids_of changes
genids_of (change.Delete table old_genid old ∷ changes) = genids_of changes

-- the versions that operations take away, in order
abbrev pub taken_by : List RowOp → List GenidItem
taken_by [] = []
taken_by (Insert table row ∷ ops) = taken_by ops
taken_by (Update table (Base genid) old row ∷ ops) = genid_item table genid ∷ taken_by ops
taken_by (Update table (Own write) old row ∷ ops) = taken_by ops
taken_by (Delete table (Base genid) old ∷ ops) = genid_item table genid ∷ taken_by ops
taken_by (Delete table (Own write) old ∷ ops) = taken_by ops

-- numbers of which the first is this one, and each other is one above the one before it
abbrev pub RiseFrom : ℕ → List ℕ → Type 0
RiseFrom first [] = Unit {0}
RiseFrom first (number ∷ numbers) = (number ≡ first) × RiseFrom (first + 1) numbers

-- the law: the changes of operations take away what the operations take away
abbrev pub ChangesTakeTheSame : Type 0
ChangesTakeTheSame = (ops : List RowOp) (next : ℕ) → genids_taken (changes_of ops next) ≡ taken_by ops

-- the law: the genids of the versions that they add rise from the next one on
abbrev pub GenidsRise : Type 0
GenidsRise = (ops : List RowOp) (next : ℕ) → RiseFrom next (genids_of (changes_of ops next))

-- the law: the next genid after operations is above the one before them by as many as they add
abbrev pub NextIsAbove : Type 0
NextIsAbove = (rows : Rows) (ops : List RowOp) → (apply_all rows ops).next ≡ rows.next + length (genids_of (changes_of ops rows.next))
