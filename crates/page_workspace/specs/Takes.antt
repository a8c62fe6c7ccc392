-- Taking a page, and giving one back. The first free page is taken where there is one, and its right link is the first
-- free page then; else the first page that was never written: the number of pages is its number, and rises by one. It
-- stays below 2^62. A page that is given back goes in front of the free pages.
--
--     first free 4, 7 pages     take     page 4    first free is the right link of 4, 7 pages
--     first free 0, 7 pages     take     page 7    first free 0, 8 pages
--     first free 4, 7 pages     free 5             first free 5, with the right link 4, 7 pages
use Rattle.std.specs.Prelude.{◌≡◌, ◌⊎◌, ℕ, ◌+◌, ◌<◌, ◌^◌}
use Rattle.page_store.specs.Image.{Image}
use Rattle.page_store.specs.declared.pages.PageKind.TheVariants.{Free}
use Rattle.page_workspace.specs.Spare.{IsMeta, next_genid, count_of, first_free}

-- a page that was never written was taken, since none is free
pub record TakesNew (old new : ℕ → Image) (id : ℕ) : Type 0 where
  pub none : first_free old ≡ 0
  pub number : id ≡ count_of old
  pub count : count_of new ≡ id + 1
  pub few : count_of new < 2 ^ 62
  pub free : first_free new ≡ first_free old

-- the first free page was taken
pub record TakesFree (old new : ℕ → Image) (id : ℕ) : Type 0 where
  pub some : id ≡ 0 → ⊥
  pub number : id ≡ first_free old
  pub count : count_of new ≡ count_of old
  pub free : first_free new ≡ (old id).head.right

-- the page was taken, and nothing but the meta page changed
pub record TakesPage (old new : ℕ → Image) (id : ℕ) : Type 0 where
  pub way : TakesFree old new id ⊎ TakesNew old new id
  pub genid : next_genid new ≡ next_genid old
  pub meta : IsMeta (old 0) → IsMeta (new 0)
  pub others : (n : ℕ) → (n ≡ 0 → ⊥) → new n ≡ old n

-- the page was given back: it is of kind free and of level 0, stands in front of the free pages, and keeps its cells
pub record FreesPage (old new : ℕ → Image) (id : ℕ) : Type 0 where
  pub some : id ≡ 0 → ⊥
  pub head : (new id).head ≡ record { kind = Free; level = 0; right = first_free old }
  pub cells : (new id).cells ≡ (old id).cells
  pub count : count_of new ≡ count_of old
  pub genid : next_genid new ≡ next_genid old
  pub free : first_free new ≡ id
  pub meta : IsMeta (new 0)
  pub others : (n : ℕ) → (n ≡ 0 → ⊥) → (n ≡ id → ⊥) → new n ≡ old n
