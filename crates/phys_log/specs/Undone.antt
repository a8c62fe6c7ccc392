-- Going back over the records of one page.
use Rattle.std.specs.Prelude.{◌≡◌, ℕ, ◌==◌, if◌then◌else◌, List, [], ◌∷◌, ◌++◌, drop}
use Rattle.page_store.specs.Image.{Image}
use Rattle.page_store.specs.Edits.{before_edit}
use Rattle.phys_log.specs.declared.entries.LogRecord.{LogRecord}
use Rattle.phys_log.specs.declared.entries.Entry.{Entry}
use Rattle.phys_log.specs.Logs.{records_in}

-- the records of a page among these, newest first
abbrev pub newest_first : ℕ → List LogRecord → List LogRecord
newest_first id [] = []
newest_first id (r ∷ rs) = if r.page == id then newest_first id rs ++ r ∷ [] else newest_first id rs

-- the records of a page after a position of a log, newest first
abbrev pub later_records : List Entry → ℕ → ℕ → List LogRecord
later_records entries position id = newest_first id (records_in (drop position entries))

-- a page before these records of it, the first of which was made last
abbrev pub undone : Image → List LogRecord → Image
undone image [] = image
undone image (r ∷ rs) = undone (before_edit image r.edit r.prev) rs

-- records that go back from one LSN to another: each `prev` is the LSN of the next one
abbrev pub IsLinked : ℕ → List LogRecord → ℕ → Type 0
IsLinked lsn [] end = lsn ≡ end
IsLinked lsn (r ∷ rs) end = (r.lsn ≡ lsn) × IsLinked r.prev rs end

-- the LSN of the last of these records that is of a page, or another where none is
abbrev pub last_on_or : ℕ → ℕ → List LogRecord → ℕ
last_on_or other id [] = other
last_on_or other id (r ∷ rs) = last_on_or (if id == r.page then r.lsn else other) id rs

-- the LSN of a page's last record among these, 0 where it has none
abbrev pub last_on : ℕ → List LogRecord → ℕ
last_on id records = last_on_or 0 id records
