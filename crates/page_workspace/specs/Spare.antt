-- The pages that are in no tree. Page 0 is the meta page: its one cell of 24 bytes has the next genid, the number of
-- pages and the first free page, each in eight bytes. Free pages are of kind free, of level 0 and without cells, and
-- are chained by their right links, 0 at the end. Pages from the number of pages on were never written.
use Rattle.std.specs.Prelude.{◌≡◌, ◌⊎◌, ℕ, ◌≤◌, ◌<◌, ◌==◌, ◌&&◌, Bool, true, false, List, [], ◌∷◌, length, drop}
use Rattle.std.specs.List.{AllByRecursion}
use Rattle.byteorder.specs.Endian.{big_number}
use Rattle.page_store.specs.Image.{Image, blank_image}
use Rattle.page_store.specs.declared.pages.PageKind.{PageKind}
use Rattle.page_store.specs.declared.pages.PageKind.TheVariants.{Free, Leaf, Inner, Meta}

-- a number is among these
abbrev pub IsIn : ℕ → List ℕ → Type 0
IsIn n [] = ⊥
IsIn n (x ∷ xs) = (n ≡ x) ⊎ IsIn n xs

-- no number is there twice
abbrev pub AreApart : List ℕ → Type 0
AreApart [] = Unit {0}
AreApart (x ∷ xs) = (IsIn x xs → ⊥) × AreApart xs

-- the first cell of a page, where it has one
abbrev pub first_cell : List (List ℕ) → List ℕ
first_cell [] = []
first_cell (cell ∷ _) = cell

abbrev pub next_genid : (ℕ → Image) → ℕ
next_genid pages = big_number 8 (first_cell (pages 0).cells)

abbrev pub count_of : (ℕ → Image) → ℕ
count_of pages = big_number 8 (drop 8 (first_cell (pages 0).cells))

abbrev pub first_free : (ℕ → Image) → ℕ
first_free pages = big_number 8 (drop 16 (first_cell (pages 0).cells))

-- page 0 is the meta page
pub record IsMeta (image : Image) : Type 0 where
  pub kind : image.head.kind ≡ Meta
  pub one : image.cells ≡ first_cell image.cells ∷ []
  pub size : length (first_cell image.cells) ≡ 24

-- the same as a test
abbrev pub is_meta_kind : PageKind → Bool
is_meta_kind Free = false
is_meta_kind Leaf = false
is_meta_kind Inner = false
is_meta_kind Meta = true

abbrev pub is_meta : Image → Bool
is_meta image = is_meta_kind image.head.kind && ((length image.cells == 1) && (length (first_cell image.cells) == 24))

-- pages chained by their right links from a first one
abbrev pub IsChain : (ℕ → Image) → ℕ → List ℕ → Type 0
IsChain pages next [] = next ≡ 0
IsChain pages next (id ∷ ids) = (next ≡ id) × (id ≡ 0 → ⊥) × IsChain pages (pages id).head.right ids

-- a free page: it has no cells, and nothing but its right link and its LSN tells it from a page that was never written
pub record IsFreePage (image : Image) : Type 0 where
  pub kind : image.head.kind ≡ Free
  pub level : image.head.level ≡ 0
  pub cells : image.cells ≡ []

-- the free pages: a chain of pages that were written and are free now, each once; and the pages past the end are blank
pub record AreFree (pages : ℕ → Image) (ids : List ℕ) : Type 0 where
  pub meta : IsMeta (pages 0)
  pub chain : IsChain pages (first_free pages) ids
  pub apart : AreApart ids
  pub written : AllByRecursion (λ id. id < count_of pages) ids
  pub kept : AllByRecursion (λ id. IsFreePage (pages id)) ids
  pub past : (id : ℕ) → count_of pages ≤ id → pages id ≡ blank_image

-- a page that a tree may take, or the meta page
abbrev pub IsSpare : (ℕ → Image) → ℕ → Type 0
IsSpare pages id = (id ≡ 0) ⊎ (count_of pages ≤ id) ⊎ ((ids : List ℕ) × IsChain pages (first_free pages) ids × IsIn id ids)
