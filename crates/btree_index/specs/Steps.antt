-- The steps of an insert on pages: one page altered, a page halved into itself and a fresh one, a page under which a
-- child was halved, and a root that was raised over a copy of itself.
use Rattle.std.specs.Prelude.{◌≡◌, ℕ, ◌+◌, ◌<◌, ◌^◌, List, [], ◌∷◌, ◌++◌, length, take, drop, Some, ◌≤◌, min}
use Rattle.std.specs.List.{insert, remove, slice_get}
use Rattle.page_store.specs.Image.{Image, HasRoom}
use Rattle.page_store.specs.declared.pages.Head.{Head}
use Rattle.page_store.specs.declared.pages.PageKind.TheVariants.{Leaf, Inner}
use Rattle.page_store.specs.declared.pages.PageKind.{PageKind}
use Rattle.btree_index.specs.declared.halves.Half.{Half}
use Rattle.btree_index.specs.declared.finds.Below.{Below}
use Rattle.page_workspace.specs.Takes.{TakesPage}
use Rattle.btree_index.specs.Keys.{Key}
use Rattle.btree_index.specs.Cells.{key_of_cell, child_of, inner_cell}

-- only this page changed, and has this head and these cells now
pub record Alters (old new : ℕ → Image) (page : ℕ) (head : Head) (cells : List (List ℕ)) : Type 0 where
  pub head_is : (new page).head ≡ head
  pub is : (new page).cells ≡ cells
  pub others : (n : ℕ) → (n ≡ page → ⊥) → new n ≡ old n

-- a cell of one page was copied behind those of another
pub record CopiesCell (old new : ℕ → Image) (page at to : ℕ) : Type 0 where
  pub cell : List ℕ
  pub here : slice_get (old page).cells at ≡ Some cell
  pub alters : Alters old new to (old to).head (insert (old to).cells (length (old to).cells) cell)

-- the cell at a place was taken away
pub record TakesAt (old new : ℕ → Image) (page at : ℕ) : Type 0 where
  pub cell : List ℕ
  pub here : slice_get (old page).cells at ≡ Some cell
  pub alters : Alters old new page (old page).head (remove (old page).cells at)

-- some cells of a page stand behind those of another
pub record Filling (old new : ℕ → Image) (page to start at : ℕ) : Type 0 where
  pub alters : Alters old new to (old to).head (new to).cells
  pub rest : (new to).cells ++ drop at (old page).cells ≡ (old to).cells ++ drop start (old page).cells

-- some cells from a place on were taken away, one at each turn from that place on
pub record Trimming (old new : ℕ → Image) (page at turn : ℕ) : Type 0 where
  pub alters : Alters old new page (old page).head (new page).cells
  pub same : take at (new page).cells ≡ take at (old page).cells
  pub less : length (new page).cells + turn ≡ length (old page).cells + at

-- the first cell of the fresh page, by the kind of page and the cell where it was cut
pub record IsFirstFor (kind : PageKind) (middle first : List ℕ) : Type 0 where
  pub leaf : kind ≡ Leaf → first ≡ middle
  pub inner : kind ≡ Inner → first ≡ inner_cell [] (child_of middle)
  pub small : kind ≡ Inner → child_of middle < 2 ^ 64

-- where a page is cut, and what the fresh page begins with
pub record IsHalf (image : Image) (half : Half) : Type 0 where
  pub middle : List ℕ
  pub some : 0 < half.at
  pub here : slice_get image.cells half.at ≡ Some middle
  pub separator : half.separator ≡ key_of_cell middle
  pub head : half.head ≡ image.head
  pub first : IsFirstFor image.head.kind middle half.first

-- a child of a page above the leaves, by the place of its cell
pub record IsBelow (image : Image) (below : Below) : Type 0 where
  pub cell : List ℕ
  pub here : slice_get image.cells below.at ≡ Some cell
  pub child : below.child ≡ child_of cell

-- the cells of a page stand in two now: in itself, and in a fresh one that is linked behind it and has the old head. Above the
-- leaves, the first cell of the fresh page has the empty key in place of the separator.
pub record Halves (old new : ℕ → Image) (page fresh : ℕ) (separator : Key) : Type 0 where
  pub start : List ℕ
  pub left : List (List ℕ)
  pub middle : List ℕ
  pub first : List ℕ
  pub right : List (List ℕ)
  pub cells : (old page).cells ≡ (start ∷ left) ++ (middle ∷ right)
  pub separator_is : separator ≡ key_of_cell middle
  pub leaf : (old page).head.kind ≡ Leaf → first ≡ middle
  pub inner : (old page).head.kind ≡ Inner → first ≡ inner_cell [] (child_of middle)
  pub small : (old page).head.kind ≡ Inner → child_of middle < 2 ^ 64
  pub left_cells : (new page).cells ≡ start ∷ left
  pub left_head : (new page).head ≡ record (old page).head { right = fresh }
  pub right_cells : (new fresh).cells ≡ first ∷ right
  pub right_head : (new fresh).head ≡ (old page).head
  pub off : page ≡ fresh → ⊥
  pub others : (n : ℕ) → (n ≡ page → ⊥) → (n ≡ fresh → ⊥) → new n ≡ old n

-- a page was taken, a child of the parent halved into it, and its cell put behind the child's
pub record Splits (old new : ℕ → Image) (parent : ℕ) : Type 0 where
  pub taken : ℕ → Image
  pub fresh : ℕ
  pub takes : TakesPage old taken fresh
  pub small : fresh < 2 ^ 64
  pub halved : ℕ → Image
  pub separator : Key
  pub short : length separator ≤ 1630
  pub at : ℕ
  pub cell : List ℕ
  pub here : slice_get (taken parent).cells at ≡ Some cell
  pub halves : Halves taken halved (child_of cell) fresh separator
  pub puts : Alters halved new parent (halved parent).head (insert (halved parent).cells (at + 1) (inner_cell separator fresh))
  pub room : HasRoom (new parent).cells

-- a page was taken, and has the root's head and cells now; the root stands one level higher and has it for its one child
pub record Crowns (old new : ℕ → Image) (root : ℕ) : Type 0 where
  pub taken : ℕ → Image
  pub fresh : ℕ
  pub takes : TakesPage old taken fresh
  pub small : fresh < 2 ^ 64
  pub off : root ≡ fresh → ⊥
  pub low_head : (new fresh).head ≡ (taken root).head
  pub low_cells : (new fresh).cells ≡ (taken root).cells
  pub kind : (new root).head.kind ≡ Inner
  pub level : (new root).head.level ≡ min ((taken root).head.level + 1) 255
  pub cells : (new root).cells ≡ inner_cell [] fresh ∷ []
  pub others : (n : ℕ) → (n ≡ root → ⊥) → (n ≡ fresh → ⊥) → new n ≡ taken n
