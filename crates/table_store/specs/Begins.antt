-- How a store begins: the edits that make the trees of a schema on pages that were never written. Each tree begins as a
-- leaf without cells, and then the meta page is made.
--
-- Of a schema with two trees:
--
--     page 1   leaf without cells
--     page 2   leaf without cells
--     page 0   meta: next genid 1, 3 pages, no free page
use Rattle.std.specs.Prelude.{◌≡◌, ℕ, zero, suc, ◌+◌, List, [], ◌∷◌, ◌++◌}
use Rattle.page_store.specs.Image.{Image, blank_image}
use Rattle.page_store.specs.declared.pages.PageKind.{PageKind}
use Rattle.page_store.specs.declared.pages.PageKind.TheVariants.{Free, Leaf, Meta}
use Rattle.page_store.specs.declared.pages.Head.{Head}
use Rattle.page_store.specs.declared.edits.Edit.{Edit}
use Rattle.page_store.specs.declared.edits.Edit.TheVariants.{PutCell, SetHead}
use Rattle.page_workspace.specs.Metas.{cell_of}

-- no page was written
abbrev pub AreBlank : (ℕ → Image) → Type 0
AreBlank pages = (id : ℕ) → pages id ≡ blank_image

-- a head of this kind, of level 0 and without a right neighbour
abbrev pub lone_head : PageKind → Head
lone_head kind = record { kind = kind; level = 0; right = 0 }

-- the edit that makes a page of this kind of one that was never written
abbrev pub turns : PageKind → Edit
turns kind = SetHead (lone_head Free) (lone_head kind)

-- the edits that make leaves of the pages from 1 up to a last one
abbrev pub leaf_edits : ℕ → List (ℕ × Edit)
leaf_edits zero = []
leaf_edits (suc last) = leaf_edits last ++ (suc last, turns Leaf) ∷ []

-- the meta page's cell of a store that begins with so many trees
abbrev pub first_cell_of : ℕ → List ℕ
first_cell_of trees = cell_of (record { next = 1; count = trees + 1; free = 0 })

-- the edits that make the meta page
abbrev pub meta_edits : ℕ → List (ℕ × Edit)
meta_edits trees = (0, turns Meta) ∷ (0, PutCell 0 (first_cell_of trees)) ∷ []
