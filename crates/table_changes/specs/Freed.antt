-- All that goes is taken out of a tree pair by pair; a leaf that becomes empty by this is freed, unless it is the root.
use Rattle.std.specs.Prelude.{◌≡◌, ℕ, true, List, [], ◌∷◌, Option, Ok, is_some}
use Rattle.page_store.specs.Image.{Image}
use Rattle.btree_index.specs.Changes.{TreeStands, Becomes}
use Rattle.btree_index.specs.Pairs.{value_at, without_key}
use Rattle.btree_index.specs.Prunes.{FreesEmptied}
use Rattle.cdb_values.specs.declared.rows.Version.{Version}
use Rattle.cdb_values.specs.declared.tables.KeyDef.{KeyDef}
use Rattle.table_store.specs.Forests.{Pair}
use Rattle.table_store.specs.Listings.{pair_of_version}
use Rattle.table_store.specs.Operations.{put_all}
use Rattle.table_changes.specs.Changed.{IsPut}

-- the pair of a version was taken out of the tree; where it was there, the leaf that had it has other cells, or is the root,
-- or is a free page now
pub record TakesPair (old new : ℕ → Image) (root : ℕ) (key : Option KeyDef) (v : Version) : Type 0 where
  pub becomes : (own free : List ℕ) (list : List Pair) → TreeStands old root own free list
      → Becomes old new root own free (without_key (pair_of_version key v).0 list)
  pub freed : (own free : List ℕ) (list : List Pair) → TreeStands old root own free list
      → is_some (value_at (pair_of_version key v).0 list) ≡ true → FreesEmptied old new root (pair_of_version key v).0

-- so were those of versions, one after the other
abbrev pub TakesPairs : (ℕ → Image) → (ℕ → Image) → ℕ → Option KeyDef → List Version → Type 0
TakesPairs old new root key [] = new ≡ old
TakesPairs old new root key (v ∷ vs) = (between : ℕ → Image) × TakesPair old between root key v × TakesPairs between new root key vs

-- all that goes was taken out so, and then all that comes was put in
pub record TakesThenPuts (old new : ℕ → Image) (root : ℕ) (key : Option KeyDef) (gone born : List Version) : Type 0 where
  pub between : ℕ → Image
  pub taken : TakesPairs old between root key gone
  pub put : (own free : List ℕ) (list : List Pair) → TreeStands between root own free list
      → IsPut between new root own free (put_all key born list) (Ok tt)
