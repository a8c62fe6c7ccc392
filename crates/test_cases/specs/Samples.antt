-- Sample entries and records of a log.
use Rattle.std.specs.Prelude.{ℕ, List, [], ◌∷◌, Option, Some, None, slice_get}
use Rattle.std.specs.Int.{w64, to_be_bytes}
use Rattle.cdb_values.specs.declared.rows.Level.TheVariants.{Snapshot}
use Rattle.page_store.specs.Image.{Image}
use Rattle.page_store.specs.declared.edits.Edit.{Edit}
use Rattle.page_store.specs.declared.edits.Edit.TheVariants.{PutCell, SwapCell}
use Rattle.phys_log.specs.declared.entries.LogRecord.{LogRecord}
use Rattle.phys_log.specs.declared.entries.Entry.{Entry}
use Rattle.phys_log.specs.declared.entries.Entry.TheVariants.{Commit}

-- a commit of session a with this number, that begins at 1 and changes no row
abbrev pub sample_entry : ℕ → List LogRecord → Entry
sample_entry txn records = Commit 1 (record { began = 1; session = 97 ∷ []; txn = txn }) 1 Snapshot [] records

-- a first cell, or one in place of the first
unfoldable pub sample_edit : Option (List ℕ) → List ℕ → Edit
sample_edit None cell = PutCell 0 cell
sample_edit (Some before) cell = SwapCell 0 before cell

-- a record that puts its LSN as a first cell, big-endian, or in place of the first cell of a page
unfoldable pub sample_record : Option Image → ℕ → ℕ → LogRecord
sample_record None page lsn = record { lsn = lsn; prev = 0; page = page; edit = PutCell 0 (to_be_bytes w64 lsn) }
sample_record (Some kept) page lsn = record { lsn = lsn; prev = kept.lsn; page = page; edit = sample_edit (slice_get kept.cells 0) (to_be_bytes w64 lsn) }
