-- The way down to a key: at each level, the page below which it may stand. And the row of leaves from there on.
use Rattle.std.specs.Prelude.{◌≡◌, ℕ, false, List, ◌∷◌, ◌++◌, map, Option}
use Rattle.std.specs.List.{AllByRecursion}
use Rattle.page_store.specs.Image.{Image}
use Rattle.btree_index.specs.Keys.{Key, before}
use Rattle.btree_index.specs.Pairs.{between}
use Rattle.btree_index.specs.Trees.{Entry, leaves, cells_of, IsShaped, IsUnder, AreFenced, AreLinked, pair_of}

-- the key may stand below this page of the level
pub record IsAt (level : List Entry) (key : Key) (page : ℕ) : Type 0 where
  pub front : List Entry
  pub low : Key
  pub others : List Entry
  pub is : level ≡ front ++ (record { low = low; page = page } ∷ others)
  pub from : before key low ≡ false
  pub to : IsUnder key others

-- somewhere on the way to a key, below a root that holds this list
pub record OnWay (pages : ℕ → Image) (key : Key) (page : ℕ) (list : List (Key × List ℕ)) : Type 0 where
  pub height : ℕ
  pub level : List Entry
  pub shaped : IsShaped pages height level
  pub fenced : AreFenced pages (leaves pages height level)
  pub at : IsAt level key page
  pub linked : AreLinked pages (leaves pages height level)
  pub past : AllByRecursion (λ e. e.page ≡ 0 → ⊥) (leaves pages height level)
  pub is : map pair_of (cells_of pages (leaves pages height level)) ≡ list

-- in the row of leaves: what was collected, with what the leaves from this page on have between, is all
pub record OnRow (pages : ℕ → Image) (low : Key) (high : Option Key) (page : ℕ) (out all : List (Key × List ℕ)) : Type 0 where
  pub least : Key
  pub others : List Entry
  pub fenced : AreFenced pages (record { low = least; page = page } ∷ others)
  pub linked : AreLinked pages (record { low = least; page = page } ∷ others)
  pub past : AllByRecursion (λ e. e.page ≡ 0 → ⊥) others
  pub is : out ++ between low high (map pair_of (cells_of pages (record { low = least; page = page } ∷ others))) ≡ all
