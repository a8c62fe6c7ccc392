-- What a walk tells of the tree below a root.
use Rattle.std.specs.Prelude.{◌≡◌, ◌≤◌, ℕ, List, length, None, Some}
use Rattle.page_store.specs.Image.{Image, blank_image}
use Rattle.page_workspace.specs.Spare.{IsIn, AreApart}
use Rattle.btree_index.specs.Trees.{Holds, top, tree_pages}
use Rattle.tree_walk.specs.declared.walks.Walked.{Walked}
use Rattle.tree_walk.specs.Walks.{IsWalked}

-- where the pages of what it gives are apart, that is a tree
abbrev pub SomeTree : Type 0
SomeTree = (pages : ℕ → Image) (root limit : ℕ) (w : Walked) → IsWalked pages root limit (Some w) → AreApart w.own.items
    → (height : ℕ) × Holds pages height (top root) w.cells.items × (w.own.items ≡ tree_pages pages height (top root))

-- where they are not, there is none
abbrev pub TwiceTree : Type 0
TwiceTree = (pages : ℕ → Image) (root limit : ℕ) (w : Walked) → IsWalked pages root limit (Some w) → (AreApart w.own.items → ⊥)
    → (height : ℕ) (cells : List (List ℕ)) → Holds pages height (top root) cells → ⊥

-- and there is none where it gives nothing, though it is allowed as many pages as may be written
abbrev pub NoTree : Type 0
NoTree = (pages : ℕ → Image) (root : ℕ) (edited : List ℕ) → ((n : ℕ) → (IsIn n edited → ⊥) → pages n ≡ blank_image)
    → IsWalked pages root (length edited) None → (height : ℕ) (cells : List (List ℕ)) → Holds pages height (top root) cells → ⊥

-- numbers that are apart, among others, are no more than these
abbrev pub InsideIsFewer : Type 0
InsideIsFewer = (xs ys : List ℕ) → AreApart xs → ((n : ℕ) → IsIn n xs → IsIn n ys) → length xs ≤ length ys
