-- What has a spelling: each number, length and count fits its field.
--
-- A schema is made by adding one table after the other, and so a list of tables that no schema can grow to has none.
use Rattle.std.specs.Prelude.{◌≡◌, ℕ, ◌<◌, ◌^◌, List, [], ◌∷◌, ◌++◌, length, None}
use Rattle.std.specs.List.{AllByRecursion}
use Rattle.cdb_values.specs.Tables.{add_fault}
use Rattle.cdb_values.specs.declared.rows.Change.{Change}
use Rattle.cdb_values.specs.declared.rows.Change.TheVariants as change
use Rattle.cdb_values.specs.declared.tables.ColumnDef.{ColumnDef}
use Rattle.cdb_values.specs.declared.tables.KeyDef.{KeyDef}
use Rattle.cdb_values.specs.declared.tables.TableDef.{TableDef}
use Rattle.cdb_values.specs.declared.values.Value.{Value}
use Rattle.key_code.specs.Codes.{row_code, IsRowValue}
use Rattle.page_store.specs.declared.edits.Edit.{Edit}
use Rattle.page_store.specs.declared.edits.Edit.TheVariants.{PutCell, TakeCell, SwapCell, SetHead}
use Rattle.page_store.specs.declared.pages.Head.{Head}
use Rattle.phys_log.specs.declared.entries.CommitId.{CommitId}
use Rattle.phys_log.specs.declared.entries.Entry.{Entry}
use Rattle.phys_log.specs.declared.entries.Entry.TheVariants.{Setup, Commit}
use Rattle.phys_log.specs.declared.entries.LogRecord.{LogRecord}
use Rattle.frame_code.specs.Codes.{payload}
use Rattle.frame_code.specs.declared.frames.Frame.{Frame}
use Rattle.frame_code.specs.declared.frames.Frame.TheVariants as frames

-- numbers of 1, 2, 8 and 16 bytes; one of 8 bytes is below 2^62
abbrev pub IsByte : ℕ → Type 0
IsByte n = n < 256

abbrev pub IsTwoBytes : ℕ → Type 0
IsTwoBytes n = n < 2 ^ 16

abbrev pub IsNumber : ℕ → Type 0
IsNumber n = n < 2 ^ 62

abbrev pub IsSixteenBytes : ℕ → Type 0
IsSixteenBytes n = n < 2 ^ 128

-- parts that each have a spelling, fewer than a byte or 8 of them count
pub record AreFew {A : Type 0} (Has : A → Type 0) (parts : List A) : Type 0 where
  pub count : IsByte (length parts)
  pub each : AllByRecursion Has parts

pub record AreMany {A : Type 0} (Has : A → Type 0) (parts : List A) : Type 0 where
  pub count : IsNumber (length parts)
  pub each : AllByRecursion Has parts

-- bytes whose length fits its field
abbrev pub IsNameBytes : List ℕ → Type 0
IsNameBytes name = IsByte (length name)

abbrev pub IsCellBytes : List ℕ → Type 0
IsCellBytes cell = IsTwoBytes (length cell)

pub record IsStoredRow (row : List Value) : Type 0 where
  pub values : AllByRecursion IsRowValue row
  pub size : length (row_code row) < 2 ^ 32

-- tables
abbrev pub IsColumn : ColumnDef → Type 0
IsColumn c = IsNameBytes c.name

pub record IsIndex (k : KeyDef) : Type 0 where
  pub name : IsNameBytes k.name
  pub columns : AreFew IsByte k.columns

pub record IsTable (t : TableDef) : Type 0 where
  pub name : IsNameBytes t.name
  pub columns : AreFew IsColumn t.columns
  pub keys : AreFew IsIndex t.keys

-- each of these tables can be added to those before it
abbrev pub Grow : List TableDef → List TableDef → Type 0
Grow before [] = Unit {0}
Grow before (table ∷ tables) = (add_fault before table ≡ None) × Grow (before ++ table ∷ []) tables

pub record IsSchema (tables : List TableDef) : Type 0 where
  pub count : IsTwoBytes (length tables)
  pub each : AllByRecursion IsTable tables
  pub grow : Grow [] tables

-- changes: the table, the genid and the row of an insert or of a delete, and those of an update
pub record IsOneRow (place number : ℕ) (values : List Value) : Type 0 where
  pub table : IsTwoBytes place
  pub genid : IsNumber number
  pub row : IsStoredRow values

pub record AreTwoRows (place before : ℕ) (values : List Value) (after : ℕ) (others : List Value) : Type 0 where
  pub table : IsTwoBytes place
  pub old_genid : IsNumber before
  pub old : IsStoredRow values
  pub genid : IsNumber after
  pub row : IsStoredRow others

abbrev pub IsChange : Change → Type 0
IsChange (change.Insert table genid row) = IsOneRow table genid row
IsChange (change.Update table old_genid old genid row) = AreTwoRows table old_genid old genid row
IsChange (change.Delete table old_genid old) = IsOneRow table old_genid old

-- records
pub record IsHead (h : Head) : Type 0 where
  pub level : IsByte h.level
  pub right : IsNumber h.right

abbrev pub IsEdit : Edit → Type 0
IsEdit (PutCell at cell) = IsTwoBytes at × IsCellBytes cell
IsEdit (TakeCell at cell) = IsTwoBytes at × IsCellBytes cell
IsEdit (SwapCell at before after) = IsTwoBytes at × IsCellBytes before × IsCellBytes after
IsEdit (SetHead before after) = IsHead before × IsHead after

pub record IsRecord (r : LogRecord) : Type 0 where
  pub lsn : IsNumber r.lsn
  pub prev : IsNumber r.prev
  pub page : IsNumber r.page
  pub edit : IsEdit r.edit

-- entries
pub record IsSetup (g : ℕ) (tables : List TableDef) (rs : List LogRecord) : Type 0 where
  pub generation : IsNumber g
  pub schema : IsSchema tables
  pub records : AreMany IsRecord rs

pub record IsCommit (g : ℕ) (id : CommitId) (position : ℕ) (cs : List Change) (rs : List LogRecord) : Type 0 where
  pub generation : IsNumber g
  pub began : IsNumber id.began
  pub session : IsNameBytes id.session
  pub txn : IsNumber id.txn
  pub begin : IsNumber position
  pub changes : AreMany IsChange cs
  pub records : AreMany IsRecord rs

abbrev pub IsEntry : Entry → Type 0
IsEntry (Setup generation schema records) = IsSetup generation schema records
IsEntry (Commit generation id begin level changes records) = IsCommit generation id begin changes records

-- payloads and frames
abbrev pub HasPayload : Frame → Type 0
HasPayload (frames.Header version node cluster) = IsByte version × IsByte node × IsSixteenBytes cluster
HasPayload (frames.Promise generation) = IsNumber generation
HasPayload (frames.Accept generation) = IsNumber generation
HasPayload (frames.Entry entry) = IsEntry entry
HasPayload (frames.Cut length) = IsNumber length

pub record IsSpelled (frame : Frame) : Type 0 where
  pub parts : HasPayload frame
  pub size : length (payload frame) < 2 ^ 64
