-- What the log, the rows and the operations of open transactions keep from line to line, so that a commit can
-- be decided and written.
use Rattle.std.specs.Prelude.{◌≡◌, ℕ, ◌<◌, ◌≤◌, List, [], ◌∷◌, length, drop, Some}
use Rattle.std.specs.List.{AllByRecursion}
use Rattle.blkseq_table.specs.Known.{AreApart}
use Rattle.blkseq_table.specs.OfLogs.{identities_of, HasId}
use Rattle.cdb_values.specs.Rows.{Rows, no_rows}
use Rattle.cdb_values.specs.declared.rows.RowOp.{RowOp}
use Rattle.cdb_values.specs.declared.rows.Version.{Version}
use Rattle.cdb_values.specs.declared.tables.TableDef.{TableDef}
use Rattle.live_operations.specs.Live.{AreLive}
use Rattle.log_replay.specs.Answers.{schema_of}
use Rattle.log_rows.specs.History.{rows_over, rows_over_at, IsFrom, StandsOver, IsCommit}
use Rattle.log_rows.specs.Sizes.{IsSmall}
use Rattle.phys_log.specs.Logs.{pages_of}
use Rattle.phys_log.specs.declared.entries.CommitId.{CommitId}
use Rattle.phys_log.specs.declared.entries.Entry.{Entry}
use Rattle.session_language.specs.Spelled.{WritesRow, HaveRows}
use Rattle.sql_run.specs.Sound.{AreSound, HasDistinctColumns, IsSoundOp}
use Rattle.table_store.specs.Stored.{Stands}
use Rattle.script_play.specs.Start.{Start, base, ground_of}
use Rattle.session_turns.specs.Doing.{Doing}
use Rattle.session_turns.specs.Doing as doing

-- a sound operation, whose row has texts of UTF-8
abbrev pub IsKeptOp : List TableDef → ℕ → RowOp → Type 0
IsKeptOp tables next op = IsSoundOp tables next op × WritesRow op

-- sound rows, with texts of UTF-8
abbrev pub AreKept : List TableDef → ℕ → List (List Version) → Type 0
AreKept tables next versions = AreSound tables next versions × HaveRows versions

-- a table as texts ask for it: its columns have distinct names
abbrev pub IsAskable : TableDef → Type 0
IsAskable table = HasDistinctColumns table

-- a log that has entries can be gone on with over these tables: its first entry is their setup, all others are those of
-- transactions, each once, and its pages stand for these rows, which are sound, with texts of UTF-8, and tell numbers
-- below 2^62
pub record GoesOn (tables : List TableDef) (log : List Entry) (rows : Rows) : Type 0 where
  pub schema : schema_of log ≡ Some tables
  pub commits : AllByRecursion IsCommit (drop 1 log)
  pub apart : AreApart (identities_of log)
  pub stands : Stands (pages_of log) tables rows
  pub kept : AreKept tables rows.next rows.tables
  pub small : IsSmall log

-- a run can begin behind a log, whose pages stand for these rows; there are none where the log has no entry
abbrev pub CanBegin : List TableDef → List Entry → Rows → Type 0
CanBegin tables [] rows = rows ≡ no_rows []
CanBegin tables (e ∷ es) rows = GoesOn tables (e ∷ es) rows

-- the transactions of a log began in generations before this one
abbrev pub AreEarlier : ℕ → List Entry → Type 0
AreEarlier generation log = (position : ℕ) (id : CommitId) → HasId log position id → id.began < generation

-- a log begins with the schema, goes on with commits, its pages stand for its rows at each position from the start on,
-- and tell numbers below 2^62
pub record IsLogged (start : Start) (tables : List TableDef) (now : ℕ) (log : List Entry) : Type 0 where
  pub count : length log ≡ now
  pub schema : schema_of log ≡ Some tables
  pub commits : AllByRecursion IsCommit (drop 1 log)
  pub stands : StandsOver (ground_of start) tables log
  pub small : IsSmall log

-- the log and the rows from the start up to a last position
pub record IsReady (start : Start) (tables : List TableDef) (now : ℕ) (log : List Entry) : Type 0 where
  pub opened : IsFrom (base start) now
  pub askable : AllByRecursion IsAskable tables
  pub logged : IsLogged start tables now log
  pub kept : (at : ℕ) → IsFrom (base start) at → at ≤ now → AreKept tables (rows_over (ground_of start) log).next (rows_over_at (ground_of start) log at).tables

-- a transaction began at a position of the log, and its operations can be done there
pub record IsAble (start : Start) (tables : List TableDef) (now : ℕ) (log : List Entry) (begin : ℕ) (ops : List RowOp) : Type 0 where
  pub first : IsFrom (base start) begin
  pub within : begin ≤ now
  pub kept : AllByRecursion (IsKeptOp tables (rows_over (ground_of start) log).next) ops
  pub live : AreLive (rows_over_at (ground_of start) log begin).tables ops

-- what a session is doing: its open transaction began at a position of the log, and its operations can be done there
abbrev pub IsReadyToGo : Start → List TableDef → ℕ → List Entry → Doing → Type 0
IsReadyToGo start tables now log doing.No = Unit {0}
IsReadyToGo start tables now log (doing.Open begin ops uses ranges) = IsAble start tables now log begin ops
IsReadyToGo start tables now log doing.Aborted = Unit {0}
