-- The pages of a log: the edits of all records, in LSN order, folded over blank pages, where each edited page gets the
-- LSN of the record. An entry's position is its place in the log, from 1; the page at a position is that of the first
-- entries, up to the position.
use Rattle.std.specs.Prelude.{◌≡◌, ℕ, ◌+◌, ◌==◌, if◌then◌else◌, List, [], ◌∷◌, ◌++◌, Option, Some, None, take}
use Rattle.page_store.specs.Image.{Image, blank_image}
use Rattle.page_store.specs.Edits.{IsFit, after_edit}
use Rattle.phys_log.specs.declared.entries.LogRecord.{LogRecord}
use Rattle.phys_log.specs.declared.entries.Entry.{Entry}
use Rattle.phys_log.specs.declared.entries.Entry.TheVariants.{Setup, Commit}

-- the records of an entry, and of entries in order
abbrev pub records_of : Entry → List LogRecord
records_of (Setup generation schema records) = records
records_of (Commit generation id begin level changes records) = records

abbrev pub records_in : List Entry → List LogRecord
records_in [] = []
records_in (e ∷ es) = records_of e ++ records_in es

-- the pages after a record
abbrev pub after_record : (ℕ → Image) → LogRecord → ℕ → Image
after_record pages r n = if n == r.page then after_edit (pages r.page) r.edit r.lsn else pages n

-- the pages after records in order
abbrev pub replayed : (ℕ → Image) → List LogRecord → ℕ → Image
replayed pages [] = pages
replayed pages (r ∷ rs) = replayed (after_record pages r) rs

-- pages that were never written
abbrev pub blank_pages : ℕ → Image
blank_pages n = blank_image

-- the pages of a log
abbrev pub pages_of : List Entry → ℕ → Image
pages_of entries = replayed blank_pages (records_in entries)

-- a page at a position of a log
abbrev pub page_at : List Entry → ℕ → ℕ → Image
page_at entries position id = pages_of (take position entries) id

-- the LSN of the last of these records, or that before them
abbrev pub lsn_after : ℕ → List LogRecord → ℕ
lsn_after before [] = before
lsn_after before (r ∷ rs) = lsn_after r.lsn rs

-- the LSN of the last record of a log, 0 where it has none
abbrev pub last_lsn_of : List Entry → ℕ
last_lsn_of entries = lsn_after 0 (records_in entries)

-- the LSN of the first of these records, and of an entry's first record
abbrev pub lsn_of_first : List LogRecord → Option ℕ
lsn_of_first [] = None
lsn_of_first (r ∷ rs) = Some r.lsn

abbrev pub first_lsn : Entry → Option ℕ
first_lsn entry = lsn_of_first (records_of entry)

-- a record is the next one on these pages, with this LSN: its `prev` is the LSN of its page, which is that of the
-- page's last record, and its edit fits the page
pub record IsNext (pages : ℕ → Image) (lsn : ℕ) (r : LogRecord) : Type 0 where
  pub number : r.lsn ≡ lsn
  pub before : r.prev ≡ (pages r.page).lsn
  pub fits : IsFit (pages r.page) r.edit

-- each of these records is the next one after those before it
abbrev pub AreNext : (ℕ → Image) → ℕ → List LogRecord → Type 0
AreNext pages lsn [] = Unit {0}
AreNext pages lsn (r ∷ rs) = IsNext pages lsn r × AreNext (after_record pages r) (lsn + 1) rs

-- an entry is the next of a log
abbrev pub Fits : List Entry → Entry → Type 0
Fits entries entry = AreNext (pages_of entries) (last_lsn_of entries + 1) (records_of entry)

-- entries that each fit those before them: their records are numbered from 1, over blank pages
abbrev pub IsLog : List Entry → Type 0
IsLog entries = AreNext blank_pages 1 (records_in entries)
