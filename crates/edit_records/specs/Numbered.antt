-- Edits in order as the records of a log. Each gets the next number for its LSN, and for its `prev` the LSN that its page
-- has by then: that of the record before it on the page, or else the one that the page came with.
--
-- Three edits of the pages 1, 2 and 1, where page 1 has the LSN 4 and page 2 none, behind the last LSN 7:
--
--     LSN 8    prev 4   page 1
--     LSN 9    prev 0   page 2
--     LSN 10   prev 8   page 1
use Rattle.std.specs.Prelude.{◌≡◌, ℕ, ◌+◌, ◌<◌, ◌^◌, ◌==◌, nat_eq, nat_lt, if◌then◌else◌, Bool, List, [], ◌∷◌, unwrap_or}
use Rattle.std.specs.List.{AllByRecursion, list_all}
use Rattle.std.specs.Map.{lookup}
use Rattle.page_store.specs.Image.{Image}
use Rattle.page_store.specs.declared.edits.Edit.{Edit}
use Rattle.phys_log.specs.declared.entries.LogRecord.{LogRecord}

-- the LSN of each page
abbrev pub lsns_of : (ℕ → Image) → ℕ → ℕ
lsns_of pages n = (pages n).lsn

-- the LSNs after a record of a page
abbrev pub raised : (ℕ → ℕ) → ℕ → ℕ → ℕ → ℕ
raised lsns page lsn n = if n == page then lsn else lsns n

-- the edits as records from an LSN on, over pages with these LSNs
abbrev pub numbered : (ℕ → ℕ) → ℕ → List (ℕ × Edit) → List LogRecord
numbered lsns lsn [] = []
numbered lsns lsn (e ∷ es) =
    record { lsn = lsn; prev = lsns e.0; page = e.0; edit = e.1 } ∷ numbered (raised lsns e.0 lsn) (lsn + 1) es

-- the edits as the records behind a last LSN
abbrev pub records_behind : (ℕ → Image) → ℕ → List (ℕ × Edit) → List LogRecord
records_behind pages last edits = numbered (lsns_of pages) (last + 1) edits

-- the LSN of each page, where those of the pages with a record stand in a map
abbrev pub lsns_over : (ℕ → Image) → List (ℕ × ℕ) → ℕ → ℕ
lsns_over pages met n = unwrap_or (lookup (nat_eq n) met) (pages n).lsn

-- each LSN is below 2^62
abbrev pub AreSmall : List LogRecord → Type 0
AreSmall records = AllByRecursion (λ r. r.lsn < 2 ^ 62) records

-- no edit is one of this page
abbrev pub IsUnedited : ℕ → List (ℕ × Edit) → Type 0
IsUnedited n edits = AllByRecursion (λ e. n ≡ e.0 → ⊥) edits

-- whether each edit is one of a page below a number
abbrev pub are_below : ℕ → List (ℕ × Edit) → Bool
are_below count edits = list_all (λ e. nat_lt e.0 count) edits
