-- Undone pages of a log at several positions, the one that was put last first. Where the log grows they are still its pages
-- there.
use Rattle.std.specs.Prelude.{◌≡◌, ℕ, ◌≤◌, List, [], Option, Some, None, length, take, Contains, nat_eq, unwrap_or}
use Rattle.std.specs.Map.{lookup}
use Rattle.lru.specs.LruCache.{LruCache, lru_cache, put_entries}
use Rattle.page_store.specs.Image.{Image}
use Rattle.phys_log.specs.Logs.{pages_of}
use Rattle.phys_log.specs.declared.entries.Entry.{Entry}
use Rattle.undo_snapshot.specs.Kept.{AreOf, Further}

-- of how many positions pages are kept at most
abbrev pub most_positions : ℕ
most_positions = 64

-- what a cache of positions has, where there is one, and that it has that size
abbrev pub entries_in : Option (LruCache ℕ (List (ℕ × Image))) → List (ℕ × List (ℕ × Image))
entries_in None = []
entries_in (Some cache) = cache.entries

abbrev pub IsSmall : Option (LruCache ℕ (List (ℕ × Image))) → Type 0
IsSmall None = Unit {0}
IsSmall (Some cache) = cache.cap ≡ most_positions

-- the pages of a position, where it has a place
abbrev pub pages_at : List (ℕ × List (ℕ × Image)) → ℕ → Option (List (ℕ × Image))
pages_at kept position = lookup (nat_eq position) kept

-- the same, and none where it has no place
abbrev pub kept_before : List (ℕ × List (ℕ × Image)) → ℕ → List (ℕ × Image)
kept_before kept position = unwrap_or (pages_at kept position) []

-- after pages of a position were put: it stands first, with these alone. Where it had no place and there were 64, the
-- last one goes
abbrev pub put_pages : List (ℕ × List (ℕ × Image)) → ℕ → List (ℕ × Image) → List (ℕ × List (ℕ × Image))
put_pages kept position pages = put_entries nat_eq (lru_cache kept most_positions) position pages

-- the pages of a position of a log
pub record AreAt (log : List Entry) (position : ℕ) (pages : List (ℕ × Image)) : Type 0 where
  pub within : position ≤ length log
  pub those : AreOf (pages_of (take position log)) pages

-- each position is one of the log, and its pages are those there
pub record AreOfLog (log : List Entry) (kept : List (ℕ × List (ℕ × Image))) : Type 0 where
  pub each : (position : ℕ) (pages : List (ℕ × Image)) → Contains kept (position, pages) → AreAt log position pages

-- what is kept after readers at positions of a log were served, one after the other: each begins with the pages that are
-- kept of its position, uses pages, and leaves all in its place
pub data Served (log : List Entry) (before : List (ℕ × List (ℕ × Image))) : List (ℕ × List (ℕ × Image)) → Type 0 where
  none_served : Served log before before
  one_served : {between : List (ℕ × List (ℕ × Image))} (position : ℕ) (pages : List (ℕ × Image)) → Served log before between
      → Further (pages_of (take position log)) (kept_before between position) pages → Served log before (put_pages between position pages)
