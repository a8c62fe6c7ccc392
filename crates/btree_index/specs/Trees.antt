-- The tree that pages hold below a root.
--
-- A level of the tree is a list of entries: a page, and the least key that may stand below it. The level below is
-- computed from it and the pages: the first cell of a page takes the page's own least key, each further cell its own.
-- So the least keys of an upper level are some of those of the leaves, and order is said once, at the leaves. An empty
-- leaf adds nothing.
use Rattle.std.specs.Prelude.{◌≡◌, ℕ, zero, suc, true, false, List, [], ◌∷◌, ◌++◌, map, min}
use Rattle.std.specs.List.{AllByRecursion}
use Rattle.page_store.specs.Image.{Image, HasRoom}
use Rattle.page_store.specs.declared.pages.PageKind.TheVariants.{Leaf, Inner}
use Rattle.page_workspace.specs.Spare.{IsIn, AreApart}
use Rattle.btree_index.specs.Keys.{Key, before}
use Rattle.btree_index.specs.Cells.{key_of_cell, value_of_cell, child_of, IsLeafCell, IsInnerCell}

-- a page of a level, and the least key that may stand below it
pub record Entry : Type 0 where
  pub low : Key
  pub page : ℕ

abbrev pub page_of : Entry → ℕ
page_of entry = entry.page

abbrev pub entry_of : List ℕ → Entry
entry_of cell = record { low = key_of_cell cell; page = child_of cell }

-- the entries below a page of this least key with these cells
abbrev pub below : Key → List (List ℕ) → List Entry
below low [] = []
below low (cell ∷ cells) = record { low = low; page = child_of cell } ∷ map entry_of cells

-- one level down
abbrev pub spread : (ℕ → Image) → List Entry → List Entry
spread pages [] = []
spread pages (e ∷ es) = below e.low (pages e.page).cells ++ spread pages es

-- the leaves, so many levels down
abbrev pub leaves : (ℕ → Image) → ℕ → List Entry → List Entry
leaves pages zero level = level
leaves pages (suc height) level = leaves pages height (spread pages level)

-- the cells of the pages of a level, joined
abbrev pub cells_of : (ℕ → Image) → List Entry → List (List ℕ)
cells_of pages [] = []
cells_of pages (e ∷ es) = (pages e.page).cells ++ cells_of pages es

-- the numbers of all pages from a level down
abbrev pub tree_pages : (ℕ → Image) → ℕ → List Entry → List ℕ
tree_pages pages zero level = map page_of level
tree_pages pages (suc height) level = map page_of level ++ tree_pages pages height (spread pages level)

-- a leaf
pub record IsLeafPage (image : Image) : Type 0 where
  pub kind : image.head.kind ≡ Leaf
  pub level : image.head.level ≡ 0
  pub cells : AllByRecursion IsLeafCell image.cells
  pub fits : HasRoom image.cells

-- the first cell of a page above the leaves is there, and its key is empty
abbrev pub BeginsEmpty : List (List ℕ) → Type 0
BeginsEmpty [] = ⊥
BeginsEmpty (cell ∷ _) = key_of_cell cell ≡ []

-- a page so far above the leaves; the page tells 255 for 255 and more
pub record IsInnerPage (height : ℕ) (image : Image) : Type 0 where
  pub kind : image.head.kind ≡ Inner
  pub level : image.head.level ≡ min height 255
  pub first : BeginsEmpty image.cells
  pub cells : AllByRecursion IsInnerCell image.cells
  pub fits : HasRoom image.cells

-- each page from a level down is of its kind
abbrev pub IsShaped : (ℕ → Image) → ℕ → List Entry → Type 0
IsShaped pages zero level = AllByRecursion (λ e. IsLeafPage (pages e.page)) level
IsShaped pages (suc height) level =
    AllByRecursion (λ e. IsInnerPage (suc height) (pages e.page)) level × IsShaped pages height (spread pages level)

-- a key is below the first of these entries
abbrev pub IsUnder : Key → List Entry → Type 0
IsUnder key [] = Unit {0}
IsUnder key (e ∷ _) = before key e.low ≡ true

-- the keys of cells rise
abbrev pub Ascends : List (List ℕ) → Type 0
Ascends [] = Unit {0}
Ascends (c ∷ []) = Unit {0}
Ascends (c ∷ d ∷ cs) = (before (key_of_cell c) (key_of_cell d) ≡ true) × Ascends (d ∷ cs)

-- a key is not above the first of these entries
abbrev pub IsUpTo : Key → List Entry → Type 0
IsUpTo key [] = Unit {0}
IsUpTo key (e ∷ _) = before e.low key ≡ false

-- the cells of a leaf stand in order between its least key and that of the next leaf. These least keys do not fall; where
-- they are the same, there is no key between, so the leaf is empty.
pub record IsFenced (low : Key) (cells : List (List ℕ)) (others : List Entry) : Type 0 where
  pub from : AllByRecursion (λ c. before (key_of_cell c) low ≡ false) cells
  pub to : AllByRecursion (λ c. IsUnder (key_of_cell c) others) cells
  pub ascends : Ascends cells
  pub next : IsUpTo low others

abbrev pub AreFenced : (ℕ → Image) → List Entry → Type 0
AreFenced pages [] = Unit {0}
AreFenced pages (e ∷ es) = IsFenced e.low (pages e.page).cells es × AreFenced pages es

-- each leaf links to the next, and the last to none
abbrev pub AreLinked : (ℕ → Image) → List Entry → Type 0
AreLinked pages [] = Unit {0}
AreLinked pages (e ∷ []) = (pages e.page).head.right ≡ 0
AreLinked pages (e ∷ f ∷ es) = ((pages e.page).head.right ≡ f.page) × AreLinked pages (f ∷ es)

-- the pages from a level down hold these cells
pub record Holds (pages : ℕ → Image) (height : ℕ) (level : List Entry) (cells : List (List ℕ)) : Type 0 where
  pub shaped : IsShaped pages height level
  pub fenced : AreFenced pages (leaves pages height level)
  pub linked : AreLinked pages (leaves pages height level)
  pub apart : AreApart (tree_pages pages height level)
  pub is : cells_of pages (leaves pages height level) ≡ cells

-- the root alone, below which every key may stand
abbrev pub top : ℕ → List Entry
top root = record { low = []; page = root } ∷ []

-- a key and its value
abbrev pub pair_of : List ℕ → Key × List ℕ
pair_of cell = (key_of_cell cell, value_of_cell cell)

-- the pages hold, below the root, the tree of this list of pairs; page 0 is none of its pages
pub record TreeList (pages : ℕ → Image) (root : ℕ) (list : List (Key × List ℕ)) : Type 0 where
  pub height : ℕ
  pub cells : List (List ℕ)
  pub holds : Holds pages height (top root) cells
  pub off_meta : IsIn 0 (tree_pages pages height (top root)) → ⊥
  pub pairs : map pair_of cells ≡ list
