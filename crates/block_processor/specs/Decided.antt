-- What is decided of a request over a log, whose rows are known over a ground: the first of these that is right.
--
-- 1. Where the entry at a position has the request's identity: a repeat, of that position.
-- 2. Where an entry after its begin position touches an item that it used: a conflict, at the first such entry and the first
--    such item. At level serializable the intervals that it read are among the items, behind the versions.
-- 3. Where the rows at the last position with its operations applied break a key: a duplicate, of the first such key.
-- 4. Else the entry that comes next. It has the request's identity, begin position and level, and the changes that its
--    operations are on the rows at the last position; its records are next on the pages of the log, which then stand for
--    these rows with the operations applied, and the next genid and the number of pages stay below 2^62.
use Rattle.std.specs.Prelude.{◌≡◌, ℕ, List, [], ◌∷◌, ◌++◌, length, Option, Some, None}
use Rattle.blkseq_table.specs.OfLogs.{HasId}
use Rattle.cdb_values.specs.Changes.{changes_of}
use Rattle.cdb_values.specs.Rows.{apply_all}
use Rattle.cdb_values.specs.declared.items.Item.{Item}
use Rattle.phys_log.specs.Logs.{pages_of, Fits}
use Rattle.phys_log.specs.declared.entries.Entry.{Entry}
use Rattle.phys_log.specs.declared.entries.Entry.TheVariants as entry
use Rattle.phys_log.specs.declared.entries.LogRecord.{LogRecord}
use Rattle.phys_log.specs.declared.requests.CommitRequest.{CommitRequest}
use Rattle.phys_log.specs.declared.requests.Decision.{Decision}
use Rattle.phys_log.specs.declared.requests.Decision.TheVariants.{Repeat, Conflict, Duplicate, Commit}
use Rattle.table_store.specs.Stored.{Stands}
use Rattle.table_edits.specs.Answers.{AreWithin}
use Rattle.table_edits.specs.Broken.{KeyPlace, broken_place}
use Rattle.log_rows.specs.History.{Ground, rows_over, tables_of}
use Rattle.block_processor.specs.Conflicts.{conflict_of}

-- no entry has the identity of a request
pub record IsNew (request : CommitRequest) (entries : List Entry) : Type 0 where
  pub nowhere : (position : ℕ) → HasId entries position request.id → ⊥

-- the first key that its operations break at the end of the log
abbrev pub broken_by : Ground → CommitRequest → List Entry → Option KeyPlace
broken_by footing request entries = broken_place (apply_all (rows_over footing entries) request.ops) 0 (tables_of entries)

-- a conflict is told
pub record TellsConflict (request : CommitRequest) (entries : List Entry) (position : ℕ) (item : Item) : Type 0 where
  pub fresh : IsNew request entries
  pub first : conflict_of request entries ≡ Some (record { position = position; item = item })

-- a duplicate is told
pub record TellsDuplicate (footing : Ground) (request : CommitRequest) (entries : List Entry) (position table key : ℕ) : Type 0 where
  pub fresh : IsNew request entries
  pub free : conflict_of request entries ≡ None
  pub now : position ≡ length entries
  pub broken : broken_by footing request entries ≡ Some (record { table = table; key = key })

-- the entry that comes next
pub record IsNextEntry (footing : Ground) (request : CommitRequest) (entries : List Entry) (generation : ℕ) (next : Entry) : Type 0 where
  pub fresh : IsNew request entries
  pub free : conflict_of request entries ≡ None
  pub kept : broken_by footing request entries ≡ None
  pub records : List LogRecord
  pub made : next ≡ entry.Commit generation request.id request.begin request.level (changes_of request.ops (rows_over footing entries).next) records
  pub fits : Fits entries next
  pub stands : Stands (pages_of (entries ++ next ∷ [])) (tables_of entries) (rows_over footing (entries ++ next ∷ []))
  pub rows : rows_over footing (entries ++ next ∷ []) ≡ apply_all (rows_over footing entries) request.ops
  pub within : AreWithin (pages_of entries) (pages_of (entries ++ next ∷ []))

-- a decision is the right one
abbrev pub Decides : Ground → CommitRequest → List Entry → ℕ → Decision → Type 0
Decides footing request entries generation (Repeat position) = HasId entries position request.id
Decides footing request entries generation (Conflict position item) = TellsConflict request entries position item
Decides footing request entries generation (Duplicate position table key) = TellsDuplicate footing request entries position table key
Decides footing request entries generation (Commit next) = IsNextEntry footing request entries generation next
