-- How a log is kept while an adoption is open: as the adopted entries, and those of the log that it leaves out.
use Rattle.std.specs.Prelude.{◌≡◌, ℕ, ◌≤◌, List, ◌++◌, length, take, Option, Some, None}
use Rattle.phys_log.specs.Logs.{IsLog}
use Rattle.phys_log.specs.declared.entries.Entry.{Entry}
use Rattle.store_log.specs.declared.asides.Aside.{Aside}

-- the log: all that is live, or the entries of it that both have, and those aside
abbrev pub log_of : List Entry → Option Aside → List Entry
log_of live None = live
log_of live (Some aside) = take aside.kept live ++ aside.tail

-- the open adoption
abbrev pub adoption_of : List Entry → Option Aside → Option (List Entry)
adoption_of live None = None
adoption_of live (Some aside) = Some live

abbrev pub IsWithin : List Entry → Option Aside → Type 0
IsWithin live None = Unit {0}
IsWithin live (Some aside) = aside.kept ≤ length live

-- both are logs, and have the kept entries
pub record ArePieces (live : List Entry) (aside : Option Aside) : Type 0 where
  pub logged : ∥ IsLog (log_of live aside) ∥₁
  pub adopted : ∥ IsLog live ∥₁
  pub within : IsWithin live aside
