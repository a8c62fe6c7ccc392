-- A tree with an empty leaf taken out of it, together with each page above that has it for its one descendant.
--
--     page 1, inner:   "" -> page 2     "m" -> page 5          page 1, inner:   "" -> page 2
--     page 2, inner:   "" -> page 3     "c" -> page 4          page 2, inner:   "" -> page 3     "c" -> page 4
--     page 5, inner:   "" -> page 6                            page 3, leaf, right 4:   a
--     page 3, leaf, right 4:   a                               page 4, leaf, right 0:   c
--     page 4, leaf, right 6:   c
--     page 6, leaf, right 0:   no cells                        pages 5 and 6 are of no tree
--
-- The page that has another child loses a cell; where it was its first, the next one gets the empty key. The leaf before
-- gets the right link of the one that goes.
use Rattle.std.specs.Prelude.{◌≡◌, ◌⊎◌, ℕ, zero, suc, ◌<◌, ◌^◌, Bool, true, false, if◌then◌else◌, List, [], ◌∷◌, ◌++◌, length, Option, None, Some}
use Rattle.std.specs.List.{remove, slice_get, slice_set}
use Rattle.page_store.specs.Image.{Image, HasRoom}
use Rattle.page_store.specs.declared.pages.PageKind.TheVariants.{Leaf, Inner}
use Rattle.page_workspace.specs.Spare.{IsIn, AreApart, IsFreePage, first_cell, count_of, next_genid}
use Rattle.btree_index.specs.Keys.{Key}
use Rattle.btree_index.specs.Cells.{child_of, inner_cell, IsInnerCell}
use Rattle.btree_index.specs.Trees.{Entry, leaves, tree_pages, Holds}
use Rattle.btree_index.specs.Changes.{TreeStands, Becomes}
use Rattle.btree_index.specs.Filled.{KeepsFilled}
use Rattle.btree_index.specs.Fits.{CanLose}
use Rattle.btree_index.specs.Pairs.{HasKeyAt, choice}
use Rattle.btree_index.specs.Steps.{Alters}
use Rattle.btree_index.specs.declared.finds.Below.{Below}
use Rattle.btree_index.specs.declared.prunes.Fork.{Fork}
use Rattle.btree_index.specs.declared.prunes.Found.{Found}
use Rattle.btree_index.specs.declared.prunes.Found.TheVariants.{Full, Lone, Forked}

-- the last page of a level
abbrev pub last_page : List Entry → Option ℕ
last_page [] = None
last_page (a ∷ []) = Some a.page
last_page (a ∷ b ∷ level) = last_page (b ∷ level)

-- entries whose first one has another least key, where so told
abbrev pub relow : Bool → Key → List Entry → List Entry
relow first low [] = []
relow first low (e ∷ es) = record { low = if first then low else e.low; page = e.page } ∷ es

-- the cells of a page whose first one has the empty key
abbrev pub rekeyed : List (List ℕ) → List (List ℕ)
rekeyed [] = []
rekeyed (cell ∷ cells) = inner_cell [] (child_of cell) ∷ cells

-- the cells of a page above the leaves without the one at a place
abbrev pub without_child : ℕ → List (List ℕ) → List (List ℕ)
without_child zero cells = rekeyed (remove cells zero)
without_child (suc at) cells = remove cells (suc at)

-- a page so far above a leaf without cells, which is its one descendant there; and the pages from it down to that leaf
abbrev pub IsLone : (ℕ → Image) → ℕ → ℕ → Type 0
IsLone pages zero page = ((pages page).head.kind ≡ Leaf) × ((pages page).cells ≡ [])
IsLone pages (suc height) page =
    ((pages page).head.kind ≡ Inner) × ((pages page).cells ≡ first_cell (pages page).cells ∷ [])
    × IsLone pages height (child_of (first_cell (pages page).cells)) × IsInnerCell (first_cell (pages page).cells)

abbrev pub lone_pages : (ℕ → Image) → ℕ → ℕ → List ℕ
lone_pages pages zero page = page ∷ []
lone_pages pages (suc height) page = page ∷ lone_pages pages height (child_of (first_cell (pages page).cells))

abbrev pub lone_leaf : (ℕ → Image) → ℕ → ℕ → ℕ
lone_leaf pages zero page = page
lone_leaf pages (suc height) page = lone_leaf pages height (child_of (first_cell (pages page).cells))

-- some pages are as before, but for the right link of one
pub record Relinks (old new : ℕ → Image) (pages : List ℕ) (left : Option ℕ) (right : ℕ) : Type 0 where
  pub others : (n : ℕ) → IsIn n pages → (left ≡ Some n → ⊥) → new n ≡ old n
  pub cells : (n : ℕ) → left ≡ Some n → (new n).cells ≡ (old n).cells
  pub head : (n : ℕ) → left ≡ Some n → (new n).head ≡ record (old n).head { right = right }

-- a level that holds the same cells after these pages left the tree; the leaf before them is still there
pub record Shrunk (old new : ℕ → Image) (height : ℕ) (before level : List Entry) (gone : List ℕ) (left : Option ℕ) (cells : List (List ℕ)) : Type 0 where
  pub holds : Holds new height level cells
  pub from : (n : ℕ) → IsIn n (tree_pages new height level) → IsIn n (tree_pages old height before)
  pub off : (n : ℕ) → IsIn n (tree_pages new height level) → IsIn n gone → ⊥
  pub keeps : (n : ℕ) → IsIn n (tree_pages old height before) → IsIn n (tree_pages new height level) ⊎ IsIn n gone
  pub went : (n : ℕ) → IsIn n gone → IsIn n (tree_pages old height before)
  pub beside : (n : ℕ) → left ≡ Some n → IsIn n (tree_pages new height level)

-- a page lost a child and has others, and the leaf before it got the right link that the leaf below had
pub record Unlinks (old new : ℕ → Image) (fork : Fork) : Type 0 where
  pub cells : (new fork.page).cells ≡ without_child fork.at (old fork.page).cells
  pub some : (new fork.page).cells ≡ [] → ⊥
  pub head : (new fork.page).head ≡ (old fork.page).head
  pub left_cells : (n : ℕ) → fork.left ≡ Some n → (new n).cells ≡ (old n).cells
  pub left_head : (n : ℕ) → fork.left ≡ Some n → (new n).head ≡ record (old n).head { right = fork.right }
  pub small : fork.at ≡ 0 → (next : List ℕ) → slice_get (old fork.page).cells 1 ≡ Some next → child_of next < 2 ^ 64
  pub room : HasRoom (new fork.page).cells
  pub others : (n : ℕ) → (n ≡ fork.page → ⊥) → (fork.left ≡ Some n → ⊥) → new n ≡ old n

-- a page can lose a child, and the leaf before that, where there is one, is another page
pub record CanUnlink (pages : ℕ → Image) (fork : Fork) : Type 0 where
  pub loses : CanLose (pages fork.page) fork.at
  pub off : fork.left ≡ Some fork.page → ⊥

-- where a page with a child more than one can lose one of them, since below that one no leaf has cells
pub record IsFork (pages : ℕ → Image) (height : ℕ) (level : List Entry) (cells : List (List ℕ)) (fork : Fork) : Type 0 where
  pub depth : ℕ
  pub lone : IsLone pages depth fork.child
  pub apart : AreApart (lone_pages pages depth fork.child)
  pub inside : IsIn fork.page (tree_pages pages height level)
  pub off : IsIn fork.page (lone_pages pages depth fork.child) → ⊥
  pub able : CanUnlink pages fork
  pub out : (new : ℕ → Image) → Unlinks pages new fork → Shrunk pages new height level level (lone_pages pages depth fork.child) fork.left cells

-- what the way to a leaf came to, seen from a page on it: the pages from there on have one empty leaf and nothing else, or
-- some page from there on is such a fork, or the leaf has cells
abbrev pub IsFound : (ℕ → Image) → ℕ → List Entry → Key → ℕ → List Entry → List (List ℕ) → Found → Type 0
IsFound pages height front low page others cells Full = Unit {0}
IsFound pages height front low page others cells (Lone lone) =
    IsLone pages height page × (last_page (leaves pages height front) ≡ lone.left) × (lone.right ≡ (pages (lone_leaf pages height page)).head.right)
IsFound pages height front low page others cells (Forked fork) = IsFork pages height (front ++ (record { low = low; page = page } ∷ others)) cells fork

-- a child of a page by the place of its cell
pub record IsChildIn (image : Image) (at child : ℕ) : Type 0 where
  pub cell : List ℕ
  pub here : slice_get image.cells at ≡ Some cell
  pub is : child ≡ child_of cell

abbrev pub IsChildAt : (ℕ → Image) → ℕ → ℕ → ℕ → Type 0
IsChildAt pages page at child = IsChildIn (pages page) at child

-- and the last one
pub record IsLastChild (pages : ℕ → Image) (page child : ℕ) : Type 0 where
  pub last : ℕ
  pub all : suc last ≡ length (pages page).cells
  pub there : IsChildIn (pages page) last child

-- the page before a child, on its level: the child before it, or the last one of the page before its own
abbrev pub IsBeside : (ℕ → Image) → ℕ → ℕ → Option ℕ → Option ℕ → Type 0
IsBeside pages page zero None next = next ≡ None
IsBeside pages page zero (Some left) next = (child : ℕ) × (next ≡ Some child) × IsLastChild pages left child
IsBeside pages page (suc at) left next = (child : ℕ) × (next ≡ Some child) × IsChildAt pages page at child

-- what was found below a child, seen from its page
abbrev pub hung_found : Found → ℕ → Below → Bool → Found
hung_found Full page below several = Full
hung_found (Lone lone) page below true = Forked (record { page = page; at = below.at; child = below.child; left = lone.left; right = lone.right })
hung_found (Lone lone) page below false = Lone lone
hung_found (Forked fork) page below several = Forked fork

-- pages of no tree that are not free either
pub record AreStray (pages : ℕ → Image) (own free ids : List ℕ) : Type 0 where
  pub apart : AreApart ids
  pub some : (n : ℕ) → IsIn n ids → n ≡ 0 → ⊥
  pub off_own : (n : ℕ) → IsIn n ids → IsIn n own → ⊥
  pub off_free : (n : ℕ) → IsIn n ids → IsIn n free → ⊥
  pub below : (n : ℕ) → IsIn n ids → n < count_of pages

-- beside a tree, the pages from one down to a leaf without cells, which are of no tree
pub record AreLoose (pages : ℕ → Image) (id height root : ℕ) (own free : List ℕ) (list : List (Key × List ℕ)) : Type 0 where
  pub stands : TreeStands pages root own free list
  pub lone : IsLone pages height id
  pub stray : AreStray pages own free (lone_pages pages height id)

-- such pages, of fewer levels than so many turns
pub record CanFree (pages : ℕ → Image) (id turns : ℕ) : Type 0 where
  pub height : ℕ
  pub root : ℕ
  pub own : List ℕ
  pub free : List ℕ
  pub list : List (Key × List ℕ)
  pub loose : AreLoose pages id height root own free list
  pub few : height < turns

-- these pages were given back, in front of those that were free
pub record FreesAll (old new : ℕ → Image) (root : ℕ) (own free : List ℕ) (list : List (Key × List ℕ)) (ids : List ℕ) : Type 0 where
  pub stands : TreeStands new root own (ids ++ free) list
  pub count : count_of new ≡ count_of old
  pub genid : next_genid new ≡ next_genid old
  pub others : (n : ℕ) → (n ≡ 0 → ⊥) → (IsIn n ids → ⊥) → new n ≡ old n

-- the one child of a page, where it is above the leaves
abbrev pub IsOnly : Image → Option ℕ → Type 0
IsOnly image None = image.head.kind ≡ Leaf
IsOnly image (Some child) = (image.head.kind ≡ Inner) × (child ≡ child_of (first_cell image.cells))

-- a page lost a child and has others, and nothing else changed
pub record DropsChild (old new : ℕ → Image) (page at : ℕ) : Type 0 where
  pub alters : Alters old new page (old page).head (without_child at (old page).cells)
  pub some : (new page).cells ≡ [] → ⊥
  pub small : at ≡ 0 → (next : List ℕ) → slice_get (old page).cells 1 ≡ Some next → child_of next < 2 ^ 64

-- the first cell of a page has the empty key now
pub record Rekeys (old new : ℕ → Image) (page : ℕ) : Type 0 where
  pub cell : List ℕ
  pub here : slice_get (old page).cells 0 ≡ Some cell
  pub small : child_of cell < 2 ^ 64
  pub alters : Alters old new page (old page).head (slice_set (old page).cells 0 (inner_cell [] (child_of cell)))

-- a leaf, where one is told, has another right link now, and is not this page
pub record SetsRight (old new : ℕ → Image) (page : ℕ) (left : Option ℕ) (right : ℕ) : Type 0 where
  pub off : left ≡ Some page → ⊥
  pub cells : (n : ℕ) → left ≡ Some n → (new n).cells ≡ (old n).cells
  pub head : (n : ℕ) → left ≡ Some n → (new n).head ≡ record (old n).head { right = right }
  pub others : (n : ℕ) → (left ≡ Some n → ⊥) → new n ≡ old n

-- a root is a leaf without cells now
abbrev pub Empties : (ℕ → Image) → (ℕ → Image) → ℕ → Type 0
Empties old new root = Alters old new root (record { kind = Leaf; level = 0; right = 0 }) (remove (old root).cells 0)

-- over any pages, the leaf to which the way to a key comes from a page, so many steps below it
abbrev pub IsLeafBelow : (ℕ → Image) → Key → ℕ → ℕ → ℕ → Type 0
IsLeafBelow pages key page zero leaf = (page ≡ leaf) × ((pages page).head.kind ≡ Leaf)
IsLeafBelow pages key page (suc steps) leaf = ((pages page).head.kind ≡ Inner) × IsLeafBelow pages key (choice key (pages page).cells) steps leaf

pub record HasLeaf (pages : ℕ → Image) (key : Key) (page leaf : ℕ) : Type 0 where
  pub steps : ℕ
  pub is : IsLeafBelow pages key page steps leaf

-- the way to the key from one page goes on at another
abbrev pub GoesOn : (ℕ → Image) → Key → ℕ → ℕ → Type 0
GoesOn pages key from page = (leaf : ℕ) → HasLeaf pages key page leaf → HasLeaf pages key from leaf

-- what the way to a key came to: a leaf with cells, or a fork on the way
abbrev pub LeadsTo : (ℕ → Image) → Key → ℕ → Found → Type 0
LeadsTo pages key page Full = (leaf : ℕ) × HasLeaf pages key page leaf × ((pages leaf).cells ≡ [] → ⊥)
LeadsTo pages key page (Lone lone) = Unit {0}
LeadsTo pages key page (Forked fork) = GoesOn pages key page fork.child

-- the tree of this list stands, and a leaf of it is its root, or is a free page now; and no other leaf is empty that was not
pub record LosesLeaf (old new : ℕ → Image) (root : ℕ) (own free : List ℕ) (list : List (Key × List ℕ)) (leaf : ℕ) : Type 0 where
  pub becomes : Becomes old new root own free list
  pub filled : KeepsFilled old new root
  pub went : (leaf ≡ root) ⊎ IsFreePage (new leaf)

-- the leaf on the way to a key has cells, or is the root, or is a free page now
pub record FreesEmpty (old new : ℕ → Image) (root : ℕ) (key : Key) : Type 0 where
  pub leaf : ℕ
  pub way : HasLeaf old key root leaf
  pub went : ((old leaf).cells ≡ [] → ⊥) ⊎ (leaf ≡ root) ⊎ IsFreePage (new leaf)

-- the key's cell was taken from a leaf that had so many; where there was none, nothing is said
pub record Takes (old new : ℕ → Image) (root : ℕ) (key : Key) (count : ℕ) : Type 0 where
  pub leaf : ℕ
  pub way : HasLeaf old key root leaf
  pub at : ℕ
  pub had : HasKeyAt key (old leaf).cells at
  pub alters : Alters old new leaf (old leaf).head (remove (old leaf).cells at)
  pub all : count ≡ length (old leaf).cells

abbrev pub IsTaken : (ℕ → Image) → (ℕ → Image) → ℕ → Key → Option ℕ → Type 0
IsTaken old new root key None = Unit {0}
IsTaken old new root key (Some count) = Takes old new root key count

-- the leaf that had the key has other cells, or is the root, or is a free page now
pub record FreesEmptied (old new : ℕ → Image) (root : ℕ) (key : Key) : Type 0 where
  pub leaf : ℕ
  pub way : HasLeaf old key root leaf
  pub at : ℕ
  pub had : HasKeyAt key (old leaf).cells at
  pub went : ((new leaf).cells ≡ [] → ⊥) ⊎ (leaf ≡ root) ⊎ IsFreePage (new leaf)
