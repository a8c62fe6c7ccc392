-- Several trees on the same pages.
--
-- The trees have their roots on pages that follow one another, and each has its own pages below its root. These pages,
-- the meta page and the free pages are all apart, so a change of one tree can leave every other one as it is. Nothing
-- here knows what the trees list.
--
-- Two trees from page 1 on, where the second one has a root and two leaves:
--
--     own     (1 ∷ []) ∷ (2 ∷ 3 ∷ 4 ∷ []) ∷ []
--     free    5 ∷ []
--     lists   one list of pairs for each tree
--     pages   0: meta, 6 pages, first free 5   1: leaf   2: inner   3, 4: leaves   5: free   6 and on: blank
use Rattle.std.specs.Prelude.{◌≡◌, ℕ, suc, ◌<◌, List, [], ◌∷◌, ◌++◌, map}
use Rattle.page_store.specs.Image.{Image}
use Rattle.page_workspace.specs.Spare.{IsIn, AreApart, AreFree, count_of}
use Rattle.btree_index.specs.Keys.{Key}
use Rattle.btree_index.specs.Trees.{Holds, top, tree_pages, pair_of}

-- a key and its value
abbrev pub Pair : Type 0
Pair = Key × List ℕ

-- the tree of this list stands below the root, on its own pages
pub record IsTree (pages : ℕ → Image) (root : ℕ) (own : List ℕ) (list : List Pair) : Type 0 where
  pub height : ℕ
  pub cells : List (List ℕ)
  pub holds : Holds pages height (top root) cells
  pub own_is : tree_pages pages height (top root) ≡ own
  pub pairs : map pair_of cells ≡ list

-- the trees of these lists, below this root and the ones that follow it
abbrev pub AreTrees : (ℕ → Image) → ℕ → List (List ℕ) → List (List Pair) → Type 0
AreTrees pages root [] [] = Unit {0}
AreTrees pages root [] (_ ∷ _) = ⊥
AreTrees pages root (_ ∷ _) [] = ⊥
AreTrees pages root (own ∷ owns) (list ∷ lists) = IsTree pages root own list × AreTrees pages (suc root) owns lists

-- these lists of numbers, joined
abbrev pub joined : List (List ℕ) → List ℕ
joined [] = []
joined (own ∷ owns) = own ++ joined owns

-- the trees of these lists stand on their own pages; these, the meta page and the free pages are apart and below the
-- number of pages, and the pages from there on are blank
pub record Forest (pages : ℕ → Image) (root : ℕ) (owns : List (List ℕ)) (free : List ℕ) (lists : List (List Pair)) : Type 0 where
  pub trees : AreTrees pages root owns lists
  pub apart : AreApart (joined owns)
  pub spare : AreFree pages free
  pub off_meta : IsIn 0 (joined owns) → ⊥
  pub off_free : (n : ℕ) → IsIn n (joined owns) → IsIn n free → ⊥
  pub below : (n : ℕ) → IsIn n (joined owns) → n < count_of pages
