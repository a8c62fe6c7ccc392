-- What the meta page tells, as numbers, and the cell that tells it. Next genid 7, 5 pages, 3 the first free one:
--
--     00 00 00 00 00 00 00 07   00 00 00 00 00 00 00 05   00 00 00 00 00 00 00 03
use Rattle.std.specs.Prelude.{◌≡◌, ℕ, if◌then◌else◌, List, ◌++◌, drop, Option, None, Some}
use Rattle.byteorder.specs.Endian.{big_number, big_bytes}
use Rattle.page_store.specs.Image.{Image}
use Rattle.page_store.specs.declared.edits.Edit.{Edit}
use Rattle.page_store.specs.declared.edits.Edit.TheVariants.{SwapCell}
use Rattle.page_workspace.specs.declared.metas.Meta.{Meta}
use Rattle.page_workspace.specs.Spare.{IsMeta, is_meta, first_cell, next_genid, count_of, first_free}

-- what a cell tells
abbrev pub meta_of : List ℕ → Meta
meta_of cell = record { next = big_number 8 cell; count = big_number 8 (drop 8 cell); free = big_number 8 (drop 16 cell) }

-- the cell that tells it
abbrev pub cell_of : Meta → List ℕ
cell_of meta = big_bytes 8 meta.next ++ (big_bytes 8 meta.count ++ big_bytes 8 meta.free)

-- what a page tells, where it is a meta page
abbrev pub meta_in : Image → Option Meta
meta_in image = if is_meta image then Some (meta_of (first_cell image.cells)) else None

-- what the meta page of these pages tells
pub record TellsMeta (pages : ℕ → Image) (meta : Meta) : Type 0 where
  pub is : IsMeta (pages 0)
  pub next : meta.next ≡ next_genid pages
  pub count : meta.count ≡ count_of pages
  pub free : meta.free ≡ first_free pages

-- the edit that makes a meta page tell something else
pub record IsSwap (image : Image) (meta : Meta) (edit : Edit) : Type 0 where
  pub on : IsMeta image
  pub is : edit ≡ SwapCell 0 (first_cell image.cells) (cell_of meta)

-- there was a meta page; now it tells this, and every other page is as before
pub record SetsMeta (old new : ℕ → Image) (meta : Meta) : Type 0 where
  pub was : IsMeta (old 0)
  pub is : IsMeta (new 0)
  pub next : next_genid new ≡ meta.next
  pub count : count_of new ≡ meta.count
  pub free : first_free new ≡ meta.free
  pub others : (n : ℕ) → (n ≡ 0 → ⊥) → new n ≡ old n
