-- The versions that the trees of a table list, one tree after the other.
--
-- The rows' tree has the versions in their order: each genid is at least a least one, and the next one's least genid is
-- one more. A key's tree has a pair for each version.
use Rattle.std.specs.Prelude.{◌≡◌, ℕ, suc, ◌≤◌, ◌<◌, true, false, List, [], ◌∷◌, map, take, drop, length, None, Some}
use Rattle.std.specs.List.{AllByRecursion}
use Rattle.btree_index.specs.Keys.{before}
use Rattle.btree_index.specs.Cells.{key_of_cell}
use Rattle.btree_index.specs.Trees.{pair_of}
use Rattle.cdb_values.specs.Good.{FitsTable}
use Rattle.cdb_values.specs.declared.rows.Version.{Version}
use Rattle.cdb_values.specs.declared.tables.TableDef.{TableDef}
use Rattle.cdb_values.specs.declared.tables.KeyDef.{KeyDef}
use Rattle.key_code.specs.Codes.{IsRowValue}
use Rattle.table_store.specs.Forests.{Pair}
use Rattle.table_store.specs.Listings.{pair_of_version, Lists}
use Rattle.table_store.specs.Readings.{row_pairs}
use Rattle.tree_walk.specs.declared.walks.Walked.{Walked}

-- each cell's key is before those of all later ones
abbrev pub Climb : List (List ℕ) → Type 0
Climb [] = Unit {0}
Climb (c ∷ cs) = AllByRecursion (λ d. before (key_of_cell c) (key_of_cell d) ≡ true) cs × Climb cs

-- a version that may stand in a table, with a genid in these bounds
pub record IsFitting (table : TableDef) (least next : ℕ) (v : Version) : Type 0 where
  pub from : least ≤ v.genid
  pub below : v.genid < next
  pub coded : AllByRecursion IsRowValue v.row
  pub fits : FitsTable table v.row

-- versions as a table has them
abbrev pub AreFitting : TableDef → ℕ → ℕ → List Version → Type 0
AreFitting table least next [] = Unit {0}
AreFitting table least next (v ∷ vs) = IsFitting table least next v × AreFitting table (suc v.genid) next vs

-- a cell has this version, as the rows' tree has it
pub record IsCellOf (table : TableDef) (least next : ℕ) (cell : List ℕ) (v : Version) : Type 0 where
  pub fitting : IsFitting table least next v
  pub pair : pair_of cell ≡ pair_of_version None v

-- cells have these versions
pub record AreCellsOf (table : TableDef) (least next : ℕ) (cells : List (List ℕ)) (versions : List Version) : Type 0 where
  pub fitting : AreFitting table least next versions
  pub pairs : map pair_of cells ≡ row_pairs versions

-- these lists are those of the keys
abbrev pub AreKeyLists : List KeyDef → List Version → List (List Pair) → Type 0
AreKeyLists [] versions [] = Unit {0}
AreKeyLists [] versions (_ ∷ _) = ⊥
AreKeyLists (_ ∷ _) versions [] = ⊥
AreKeyLists (key ∷ keys) versions (list ∷ lists) = Lists (Some key) versions list × AreKeyLists keys versions lists

-- the list of a table's rows and those of its keys have these versions
pub record IsTable (table : TableDef) (next : ℕ) (list : List Pair) (lists : List (List Pair)) (versions : List Version) : Type 0 where
  pub fitting : AreFitting table 0 next versions
  pub rows : list ≡ row_pairs versions
  pub keys : AreKeyLists table.keys versions lists

-- the lists of tables have these versions
abbrev pub AreTables : ℕ → List TableDef → List (List Pair) → List (List Version) → Type 0
AreTables next [] [] [] = Unit {0}
AreTables next [] [] (_ ∷ _) = ⊥
AreTables next [] (_ ∷ _) all = ⊥
AreTables next (_ ∷ _) [] all = ⊥
AreTables next (_ ∷ _) (_ ∷ _) [] = ⊥
AreTables next (table ∷ tables) (list ∷ lists) (versions ∷ all) =
    IsTable table next list (take (length table.keys) lists) versions × AreTables next tables (drop (length table.keys) lists) all

-- the cells of each tree climb
abbrev pub AllClimb : List Walked → Type 0
AllClimb [] = Unit {0}
AllClimb (tree ∷ trees) = Climb tree.cells.items × AllClimb trees

-- a place among cells: those before it have keys before this one, and the first one from there on has not
pub record IsPlaceOf (cells : List (List ℕ)) (key : List ℕ) (place : ℕ) : Type 0 where
  pub within : place ≤ length cells
  pub front : AllByRecursion (λ c. before (key_of_cell c) key ≡ true) (take place cells)
  pub back : AllByRecursion (λ c. before (key_of_cell c) key ≡ false) (drop place cells)
