-- What any pages are found to hold, whatever the rows mean: the meta page, the free pages, and so many trees from page 1 on.
use Rattle.std.specs.Prelude.{◌≡◌, ℕ, ◌^◌, ◌<◌, List, ◌++◌, length, Option, None, Some}
use Rattle.page_store.specs.Image.{Image}
use Rattle.page_workspace.specs.Spare.{next_genid, count_of}
use Rattle.table_store.specs.Forests.{Pair, Forest, joined}
use Rattle.table_state.specs.declared.forests.Found.{Found}
use Rattle.tree_walk.specs.declared.walks.Walked.{Walked}
use Rattle.table_state.specs.declared.reserves.Reserve.{Reserve}
use Rattle.table_state.specs.Listed.{AllClimb, AreTables}
use Rattle.cdb_values.specs.Rows.{Rows}
use Rattle.cdb_values.specs.declared.tables.TableDef.{TableDef}
use Rattle.table_state.specs.Grown.{owns_of, lists_of, AreOwn}

-- the pages are a forest of so many trees, with these pages, lists and free pages, and small numbers on the meta page
pub record HasForest (pages : ℕ → Image) (trees : ℕ) (found : Found) : Type 0 where
  pub forest : Forest pages 1 (owns_of found.trees.items) found.free.items (lists_of found.trees.items)
  pub number : length found.trees.items ≡ trees
  pub next : found.next ≡ next_genid pages
  pub next_small : found.next < 2 ^ 62
  pub count_small : count_of pages < 2 ^ 62
  pub climb : AllClimb found.trees.items

-- the pages are no forest of so many trees at all, or the numbers on the meta page are not small
abbrev pub HasNoForest : (ℕ → Image) → ℕ → Type 0
HasNoForest pages trees = (owns : List (List ℕ)) (free : List ℕ) (lists : List (List Pair)) → length lists ≡ trees → Forest pages 1 owns free lists
    → next_genid pages < 2 ^ 62 → count_of pages < 2 ^ 62 → ⊥

-- what is found
abbrev pub IsFound : (ℕ → Image) → ℕ → Option Found → Type 0
IsFound pages trees None = HasNoForest pages trees
IsFound pages trees (Some found) = HasForest pages trees found

-- what was read is gathered, where no page stands twice in it
pub record HasAll (reserve : Reserve) (grown : List Walked) (found : Found) : Type 0 where
  pub own : AreOwn (joined (owns_of grown) ++ reserve.free.items) reserve.count
  pub next : found.next ≡ reserve.next
  pub free : found.free.items ≡ reserve.free.items
  pub trees : found.trees.items ≡ grown

abbrev pub IsGathered : Reserve → List Walked → Option Found → Type 0
IsGathered reserve trees None = AreOwn (joined (owns_of trees) ++ reserve.free.items) reserve.count → ⊥
IsGathered reserve trees (Some found) = HasAll reserve trees found

-- the rows that the trees of what was found list
pub record IsRead (found : Found) (tables : List TableDef) (rows : Rows) : Type 0 where
  pub are : AreTables found.next tables (lists_of found.trees.items) rows.tables
  pub next_is : rows.next ≡ found.next
