-- Undone pages that are kept, each with its number, those first that were used last. There are at most 256.
use Rattle.std.specs.Prelude.{◌≡◌, ℕ, List, Option, None, Some, Contains, nat_eq}
use Rattle.std.specs.Map.{lookup}
use Rattle.lru.specs.LruCache.{lru_cache, put_entries}
use Rattle.page_store.specs.Image.{Image}

-- how many pages are kept at most
abbrev pub most_kept : ℕ
most_kept = 256

-- the kept page of a number
abbrev pub kept_page : List (ℕ × Image) → ℕ → Option Image
kept_page kept id = lookup (nat_eq id) kept

abbrev pub kept_at : List (ℕ × Image) → Option ℕ → Option Image
kept_at kept None = None
kept_at kept (Some id) = kept_page kept id

-- the kept pages after a use of one of this number: it stands first. Where it was not kept and there were 256, the last
-- one is kept no more
abbrev pub used_page : List (ℕ × Image) → ℕ → Image → List (ℕ × Image)
used_page kept id image = put_entries nat_eq (lru_cache kept most_kept) id image

-- kept pages of some pages, and what is kept after any uses of them
pub data Further (pages : ℕ → Image) (before : List (ℕ × Image)) : List (ℕ × Image) → Type 0 where
  as_before : Further pages before before
  used_on : {between : List (ℕ × Image)} (id : ℕ) → Further pages before between → Further pages before (used_page between id (pages id))

-- each kept page is the one of its number among these
pub record AreOf (pages : ℕ → Image) (kept : List (ℕ × Image)) : Type 0 where
  pub each : (id : ℕ) (image : Image) → Contains kept (id, image) → image ≡ pages id
