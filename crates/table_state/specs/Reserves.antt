-- The pages that are in no tree, as they are read from any pages: the meta page, the free pages, and the blank ones past the
-- end.
use Rattle.std.specs.Prelude.{◌≡◌, ℕ, ◌^◌, ◌≤◌, ◌<◌, List, Option, None, Some}
use Rattle.std.specs.List.{AllByRecursion}
use Rattle.page_store.specs.Image.{Image, blank_image}
use Rattle.page_workspace.specs.Spare.{IsMeta, IsChain, IsFreePage, AreFree, next_genid, count_of, first_free}
use Rattle.table_state.specs.declared.reserves.Reserve.{Reserve}

-- the pages have these free pages, if no number comes twice in them and each is below the number of pages
pub record HasReserve (pages : ℕ → Image) (reserve : Reserve) : Type 0 where
  pub meta : IsMeta (pages 0)
  pub next : reserve.next ≡ next_genid pages
  pub count : reserve.count ≡ count_of pages
  pub next_small : reserve.next < 2 ^ 62
  pub count_small : reserve.count < 2 ^ 62
  pub chain : IsChain pages (first_free pages) reserve.free.items
  pub kept : AllByRecursion (λ id. IsFreePage (pages id)) reserve.free.items
  pub past : (id : ℕ) → count_of pages ≤ id → pages id ≡ blank_image

-- no free pages are there at all, or the numbers of the meta page are not small
abbrev pub HasNoReserve : (ℕ → Image) → Type 0
HasNoReserve pages = (free : List ℕ) → AreFree pages free → next_genid pages < 2 ^ 62 → count_of pages < 2 ^ 62 → ⊥

-- what is found of them
abbrev pub IsReserve : (ℕ → Image) → Option Reserve → Type 0
IsReserve pages None = HasNoReserve pages
IsReserve pages (Some reserve) = HasReserve pages reserve
