-- A log whose last entries are exchanged for others, as long as it is not settled which of the two stay.
use Rattle.std.specs.Prelude.{ℕ, ◌≤◌, List, ◌++◌, Option, length, take}
use Rattle.page_store.specs.Image.{Image}
use Rattle.phys_log.specs.declared.entries.Entry.{Entry}
use Rattle.phys_log.specs.Logs.{IsLog}
use Rattle.log_replay.specs.Chains.{chain_of}
use Rattle.log_replay.specs.declared.kept.KeptPages.{KeptPages}
use Rattle.log_replay.specs.Kept.{room_in, IsKept}

-- the log before the exchange, and after it
pub record Exchanged : Type 0 where
  pub before : List Entry
  pub after : List Entry

-- the chains have room for the links of a log
abbrev pub HasLinkRoom : List Entry → KeptPages → Type 0
HasLinkRoom entries pages = (n : ℕ) → length (chain_of entries n) ≤ room_in pages n

-- the pages are those of the first entries with the others behind them; the entries that were had are a log, for which the
-- chains have room
pub record IsExchanged (entries made : List Entry) (pages : KeptPages) (blank : Option Image) (kept : ℕ) : Type 0 where
  pub within : kept ≤ length entries
  pub filled : IsKept (take kept entries ++ made) pages blank
  pub logged : ∥ IsLog entries ∥₁
  pub room : HasLinkRoom entries pages
