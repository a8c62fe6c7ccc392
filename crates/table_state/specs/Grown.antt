-- The trees of a store as the walks give them, one for each root from a first one on.
use Rattle.std.specs.Prelude.{◌≡◌, ℕ, suc, ◌+◌, ◌<◌, List, [], ◌∷◌, map, length, None, Some}
use Rattle.page_store.specs.Image.{Image}
use Rattle.page_workspace.specs.Spare.{IsIn, AreApart}
use Rattle.btree_index.specs.Trees.{pair_of}
use Rattle.tree_walk.specs.declared.walks.Walked.{Walked}
use Rattle.tree_walk.specs.Walks.{IsWalked}
use Rattle.table_store.specs.Forests.{Pair}

-- the pages of a tree, and what it lists
abbrev pub own_of : Walked → List ℕ
own_of tree = tree.own.items

abbrev pub list_of : Walked → List Pair
list_of tree = map pair_of tree.cells.items

abbrev pub owns_of : List Walked → List (List ℕ)
owns_of trees = map own_of trees

abbrev pub lists_of : List Walked → List (List Pair)
lists_of trees = map list_of trees

-- the walks from these roots on gave these trees
abbrev pub AreWalked : (ℕ → Image) → ℕ → ℕ → List Walked → Type 0
AreWalked pages root limit [] = Unit {0}
AreWalked pages root limit (tree ∷ trees) = IsWalked pages root limit (Some tree) × AreWalked pages (suc root) limit trees

-- so many walks from root 1 on gave these trees
pub record AreGrown (pages : ℕ → Image) (number limit : ℕ) (trees : List Walked) : Type 0 where
  pub walked : AreWalked pages 1 limit trees
  pub number_is : length trees ≡ number

-- one of so many walks from root 1 on gave none
pub record IsFelled (pages : ℕ → Image) (number limit : ℕ) : Type 0 where
  pub at : ℕ
  pub less : at < number
  pub none : IsWalked pages (1 + at) limit None

-- no number comes twice, and each is above 0 and below a limit
pub record AreOwn (numbers : List ℕ) (limit : ℕ) : Type 0 where
  pub apart : AreApart numbers
  pub within : (n : ℕ) → IsIn n numbers → (0 < n) × (n < limit)
