-- Own writes in order, the first of them with their stamps and their marks. The writes behind these have none yet.
--
-- The stamps rise from write to write, and a write keeps its stamp while others are taken out. So a mark leads to a
-- stamp, and the stamp to the place that its write has now.
use Rattle.std.specs.Prelude.{◌≡◌, ℕ, ◌<◌, ◌≤◌, List, Bool, true, length, slice_get, slice_index_or, Some}
use Rattle.std.specs.BTreeSet.{BTreeSet, contains}
use Rattle.std.specs.Ordering.{nat_cmp}
use Rattle.cdb_values.specs.declared.rows.RowOp.{RowOp}
use Rattle.cdb_values.specs.declared.rows.RowOp.TheVariants.{Insert, Update, Delete}
use Rattle.cdb_values.specs.declared.rows.RowRef.{RowRef}
use Rattle.cdb_values.specs.declared.rows.RowRef.TheVariants.{Base, Own}
use Rattle.cdb_values.specs.declared.values.Value.{Value}
use Rattle.own_writes.specs.Marks.{column_mark, genid_mark, key_of}

abbrev pub stamp_at : List ℕ → ℕ → ℕ
stamp_at stamps place = slice_index_or stamps place 0

abbrev pub Rise : List ℕ → Type 0
Rise stamps = (i j : ℕ) → i < j → j < length stamps → stamp_at stamps i < stamp_at stamps j

abbrev pub AreSmall : List ℕ → Type 0
AreSmall stamps = (k : ℕ) → k < length stamps → stamp_at stamps k < 4294967296

-- whether the write of a stamp has a mark
abbrev pub has : BTreeSet ℕ → ℕ → ℕ → Bool
has marks mark stamp = contains nat_cmp marks (key_of mark stamp)

-- a write has the mark of each column of a row
abbrev pub HasColumns : BTreeSet ℕ → ℕ → ℕ → List Value → Type 0
HasColumns marks stamp table row = (column : ℕ) (value : Value) → slice_get row column ≡ Some value → has marks (column_mark table column value) stamp ≡ true

-- and of the version that it takes away
abbrev pub HasTarget : BTreeSet ℕ → ℕ → ℕ → RowRef → Type 0
HasTarget marks stamp table (Base genid) = has marks (genid_mark table genid) stamp ≡ true
HasTarget marks stamp table (Own number) = Unit {0}

abbrev pub IsMarked : BTreeSet ℕ → ℕ → RowOp → Type 0
IsMarked marks stamp (Insert table row) = HasColumns marks stamp table row
IsMarked marks stamp (Update table target old row) = HasTarget marks stamp table target × HasColumns marks stamp table row
IsMarked marks stamp (Delete table target old) = HasTarget marks stamp table target

-- nothing that these marks have is gone
abbrev pub Keeps : BTreeSet ℕ → BTreeSet ℕ → Type 0
Keeps old new = (key : ℕ) → contains nat_cmp old key ≡ true → contains nat_cmp new key ≡ true

-- nothing of the writes of other stamps is gone
abbrev pub KeepsOthers : ℕ → BTreeSet ℕ → BTreeSet ℕ → Type 0
KeepsOthers stamp old new = (mark other : ℕ) → other < 4294967296 → (other ≡ stamp → ⊥) → has old mark other ≡ true → has new mark other ≡ true

pub record AreKept (ops : List RowOp) (stamps : List ℕ) (marks : BTreeSet ℕ) : Type 0 where
  pub few : length stamps ≤ length ops
  pub rise : Rise stamps
  pub small : AreSmall stamps
  pub marked : (k : ℕ) (op : RowOp) → k < length stamps → slice_get ops k ≡ Some op → IsMarked marks (stamp_at stamps k) op
