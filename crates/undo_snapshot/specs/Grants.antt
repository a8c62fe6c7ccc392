-- What a grant of a page speaks of: a log that begins with the first entries that the reader knows. The log may be
-- another at each grant.
use Rattle.std.specs.Prelude.{◌≡◌, ℕ, List, ◌++◌, length}
use Rattle.phys_log.specs.declared.entries.Entry.{Entry}
use Rattle.phys_log.specs.Logs.{pages_of, IsLog}
use Rattle.phys_log.specs.Undone.{later_records}
use Rattle.log_replay.specs.declared.grants.Grant.{Grant}

-- there is a log with these first entries, of which the grant has the page, and its records behind them, newest first
pub record Speaks (front : List Entry) (page : ℕ) (grant : Grant) : Type 0 where
  pub log : List Entry
  pub more : List Entry
  pub logged : IsLog log
  pub begins : log ≡ front ++ more
  pub copy : grant.copy ≡ pages_of log page
  pub chain : grant.chain ≡ later_records log (length front) page
