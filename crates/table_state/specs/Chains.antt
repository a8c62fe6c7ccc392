-- The free pages as they are read from any pages, and whether the pages past the end are blank.
use Rattle.std.specs.Prelude.{ℕ, zero, suc, ◌==◌, ◌&&◌, ◌||◌, Bool, true, false, if◌then◌else◌, List, [], ◌∷◌, length, nat_lt, Option, None, Some, option_map}
use Rattle.page_store.specs.Image.{Image}
use Rattle.page_store.specs.declared.pages.PageKind.{PageKind}
use Rattle.page_store.specs.declared.pages.PageKind.TheVariants.{Free, Leaf, Inner, Meta}

abbrev pub is_free_kind : PageKind → Bool
is_free_kind Free = true
is_free_kind Leaf = false
is_free_kind Inner = false
is_free_kind Meta = false

-- whether a page is a free one
abbrev pub is_free_page : Image → Bool
is_free_page image = is_free_kind image.head.kind && ((image.head.level == 0) && (length image.cells == 0))

-- whether a page is one that was never written
abbrev pub is_blank : Image → Bool
is_blank image = is_free_page image && ((image.head.right == 0) && (image.lsn == 0))

-- whether a page is blank, if its number is not below the number of pages
abbrev pub is_past : (ℕ → Image) → ℕ → ℕ → Bool
is_past pages count id = nat_lt id count || is_blank (pages id)

-- whether those of these pages are blank that are not below the number of pages
abbrev pub are_past : (ℕ → Image) → ℕ → List ℕ → Bool
are_past pages count [] = true
are_past pages count (id ∷ ids) = is_past pages count id && are_past pages count ids

-- the free pages that are chained from a first one, in at most so many turns
abbrev pub chain_from : (ℕ → Image) → ℕ → ℕ → Option (List ℕ)
chain_from pages zero id = if id == 0 then Some [] else None
chain_from pages (suc turns) id =
    if id == 0 then Some []
    else if is_free_page (pages id) then option_map (λ ids. id ∷ ids) (chain_from pages turns (pages id).head.right)
    else None
