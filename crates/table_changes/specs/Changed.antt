-- What operations do to one tree, operation by operation.
use Rattle.std.specs.Prelude.{◌≤◌, ◌+◌, ℕ, Bool, true, false, List, [], ◌∷◌, length, Option, None, Some, Result, Ok, Err}
use Rattle.std.specs.List.{AllByRecursion}
use Rattle.page_store.specs.Image.{Image}
use Rattle.btree_index.specs.Changes.{Becomes}
use Rattle.btree_index.specs.declared.inserts.InsertFault.{InsertFault}
use Rattle.btree_index.specs.declared.inserts.InsertFault.TheVariants.{Duplicate, Gone, NoMemory}
use Rattle.cdb_values.specs.Rows.{version}
use Rattle.cdb_values.specs.declared.rows.RowOp.{RowOp}
use Rattle.cdb_values.specs.declared.rows.RowOp.TheVariants.{Insert, Update, Delete}
use Rattle.cdb_values.specs.declared.rows.RowRef.{RowRef}
use Rattle.cdb_values.specs.declared.rows.RowRef.TheVariants.{Base, Own}
use Rattle.cdb_values.specs.declared.rows.Version.{Version}
use Rattle.cdb_values.specs.declared.tables.KeyDef.{KeyDef}
use Rattle.cdb_values.specs.declared.values.Value.{Value}
use Rattle.key_code.specs.Codes.{IsShort}
use Rattle.table_store.specs.Forests.{Pair}
use Rattle.table_store.specs.Listings.{pair_of_version}

-- a version, where its table is the one that is changed
abbrev pub born_if : Bool → ℕ → List Value → List Version
born_if true next row = version next row ∷ []
born_if false next row = []

-- the version that goes by a target, where its table is the one that is changed
abbrev pub gone_by : Bool → RowRef → List Value → List Version
gone_by is_here (Base genid) old = born_if is_here genid old
gone_by is_here (Own write) old = []

-- the version that comes by a target, where its table is the one that is changed
abbrev pub born_by : Bool → ℕ → RowRef → List Value → List Version
born_by is_here next (Base genid) row = born_if is_here next row
born_by is_here next (Own write) row = []

-- the next genid behind a target, and behind an operation
abbrev pub next_by : ℕ → RowRef → ℕ
next_by next (Base genid) = next + 1
next_by next (Own write) = next

abbrev pub next_of : ℕ → RowOp → ℕ
next_of next (Insert table row) = next + 1
next_of next (Update table target old row) = next_by next target
next_of next (Delete table target old) = next

-- what a tree has of a version fits a cell, and the row has a code
pub record IsPuttable (key : Option KeyDef) (v : Version) : Type 0 where
  pub key_fits : length (pair_of_version key v).0 ≤ 1630
  pub cell_fits : 2 + length (pair_of_version key v).0 + length (pair_of_version key v).1 ≤ 1640
  pub short : AllByRecursion IsShort v.row

-- an answer of putting pairs into a tree: where all can be put it has them, and where one cannot, since its key is there,
-- that is a duplicate
abbrev pub IsPut : (ℕ → Image) → (ℕ → Image) → ℕ → List ℕ → List ℕ → Option (List Pair) → Result (Unit {0}) InsertFault → Type 0
IsPut old new root own free (Some after) (Ok x) = Becomes old new root own free after
IsPut old new root own free None (Ok x) = ⊥
IsPut old new root own free (Some after) (Err Duplicate) = ⊥
IsPut old new root own free None (Err Duplicate) = Unit {0}
IsPut old new root own free (Some after) (Err Gone) = Unit {0}
IsPut old new root own free None (Err Gone) = Unit {0}
IsPut old new root own free (Some after) (Err NoMemory) = Unit {0}
IsPut old new root own free None (Err NoMemory) = Unit {0}

-- of a tree: it became one of some list, of which this is true
pub record BecomesSome (old new : ℕ → Image) (root : ℕ) (own free : List ℕ) (P : List Pair → Type 0) : Type 0 where
  pub list : List Pair
  pub becomes : Becomes old new root own free list
  pub is : P list
