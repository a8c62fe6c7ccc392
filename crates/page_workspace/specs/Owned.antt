-- The pages that a workspace keeps itself, since they were edited, each with its number: it stands over the page of that
-- number below.
use Rattle.std.specs.Prelude.{◌≡◌, ℕ, nat_eq, List, Option, None, Some, unwrap_or}
use Rattle.std.specs.Map.{lookup}
use Rattle.page_store.specs.Image.{Image}
use Rattle.page_store.specs.declared.edits.Edit.{Edit}
use Rattle.page_workspace.specs.Drafts.{edited_by, AreFit}

-- the own page of a number
abbrev pub own_of : List (ℕ × Image) → ℕ → Option Image
own_of owns n = lookup (nat_eq n) owns

-- own pages over others
abbrev pub overlay : List (ℕ × Image) → (ℕ → Image) → ℕ → Image
overlay owns pages n = unwrap_or (own_of owns n) (pages n)

-- the loaded page: an own one where its number is told and there is one, else that which was loaded below
abbrev pub or_loaded : Option Image → Option Image → Option Image
or_loaded None below = below
or_loaded (Some image) below = Some image

abbrev pub own_at : List (ℕ × Image) → Option ℕ → Option Image
own_at owns None = None
own_at owns (Some id) = own_of owns id

-- the own pages are what the edits make of those below, and each edit fits
pub record IsKept (owns : List (ℕ × Image)) (edits : List (ℕ × Edit)) (pages : ℕ → Image) : Type 0 where
  pub cache : (n : ℕ) → overlay owns pages n ≡ edited_by edits pages n
  pub fit : ∥ AreFit edits pages ∥₁
