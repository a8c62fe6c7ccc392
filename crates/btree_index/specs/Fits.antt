-- What the steps of a change need of the pages, so that each of their edits fits.
use Rattle.std.specs.Prelude.{◌≡◌, ◌⊎◌, ℕ, ◌+◌, ◌<◌, ◌≤◌, [], ◌∷◌, length, Option, None, Some}
use Rattle.page_store.specs.Image.{Image, taken, room}
use Rattle.page_store.specs.declared.pages.PageKind.TheVariants.{Leaf, Inner}
use Rattle.page_workspace.specs.Spare.{IsMeta, count_of, first_cell, first_free}
use Rattle.btree_index.specs.Keys.{Key}
use Rattle.btree_index.specs.Cells.{IsInnerCell}
use Rattle.btree_index.specs.Pairs.{choice}
use Rattle.btree_index.specs.Trees.{IsLeafPage, IsInnerPage}

-- the most bytes that a cell of a tree takes of a page, with its slot
abbrev pub most : ℕ
most = 1644

-- a page with room for a cell more, however long
abbrev pub HasSpare : Image → Type 0
HasSpare image = taken image.cells + most ≤ room

-- a page without
abbrev pub IsFull : Image → Type 0
IsFull image = room < taken image.cells + most

-- a page of a tree, of any level
abbrev pub IsTreePage : Image → Type 0
IsTreePage image = IsLeafPage image ⊎ ((height : ℕ) × IsInnerPage height image)

-- a page that can be halved: it is full, so it has two cells
pub record IsHalvable (image : Image) : Type 0 where
  pub page : IsTreePage image
  pub full : IsFull image

-- a page can be taken, and has no cells
pub record HasNext (pages : ℕ → Image) : Type 0 where
  pub meta : IsMeta (pages 0)
  pub some : count_of pages ≡ 0 → ⊥
  pub blank : (pages (count_of pages)).cells ≡ []
  pub kept : (first_free pages ≡ 0 → ⊥) → (pages (first_free pages)).cells ≡ []

-- a page that stays when one is taken
pub record Stays (pages : ℕ → Image) (page : ℕ) : Type 0 where
  pub some : page ≡ 0 → ⊥
  pub off : page ≡ count_of pages → ⊥
  pub off_free : page ≡ first_free pages → ⊥

-- a root that can be raised
pub record IsRaisable (pages : ℕ → Image) (root : ℕ) : Type 0 where
  pub next : HasNext pages
  pub page : IsTreePage (pages root)
  pub stays : Stays pages root

-- a page above the leaves, below which the page on the way to a key can be halved
pub record IsSplittable (pages : ℕ → Image) (parent : ℕ) (key : Key) : Type 0 where
  pub next : HasNext pages
  pub height : ℕ
  pub inner : IsInnerPage height (pages parent)
  pub spare : HasSpare (pages parent)
  pub child : IsHalvable (pages (choice key (pages parent).cells))
  pub stays : Stays pages parent
  pub child_stays : Stays pages (choice key (pages parent).cells)
  pub apart : parent ≡ choice key (pages parent).cells → ⊥

-- below a page on the way to a key, where one is told, the way came to this page at once, or to a full one
abbrev pub IsFullUntil : (ℕ → Image) → Key → Option ℕ → ℕ → Type 0
IsFullUntil pages key None page = Unit {0}
IsFullUntil pages key (Some above) page = (choice key (pages above).cells ≡ page) ⊎ IsFull (pages (choice key (pages above).cells))

-- below a page on the way to a key, where one is told, the way comes to a full one
abbrev pub IsFullUnder : (ℕ → Image) → Key → Option ℕ → Type 0
IsFullUnder pages key None = Unit {0}
IsFullUnder pages key (Some above) = IsFull (pages (choice key (pages above).cells))

-- a leaf, or a page above the leaves with one child
abbrev pub HasOneChild : Image → Type 0
HasOneChild image =
    (image.head.kind ≡ Leaf) ⊎ ((image.head.kind ≡ Inner) × (image.cells ≡ first_cell image.cells ∷ []) × IsInnerCell (first_cell image.cells))

-- a page above the leaves that can lose the child at a place, since it has another one
pub record CanLose (image : Image) (at : ℕ) : Type 0 where
  pub height : ℕ
  pub inner : IsInnerPage height image
  pub there : at < length image.cells
  pub several : 1 < length image.cells
