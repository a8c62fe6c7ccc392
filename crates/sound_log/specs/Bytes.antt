-- Rows of bytes: each byte of a blob is below 256. The models of pages are lists of numbers, and do not say it.
--
-- Pages stand for one state at most. So the rows of a log that is sound are of bytes exactly where all rows are for which
-- its pages may stand.
use Rattle.std.specs.Prelude.{ℕ, ◌<◌, List}
use Rattle.std.specs.List.{AllByRecursion}
use Rattle.cdb_values.specs.Rows.{Rows}
use Rattle.cdb_values.specs.declared.rows.Version.{Version}
use Rattle.cdb_values.specs.declared.tables.TableDef.{TableDef}
use Rattle.cdb_values.specs.declared.values.Value.{Value}
use Rattle.cdb_values.specs.declared.values.Value.TheVariants.{Null, Int, Text, Blob}
use Rattle.page_store.specs.Image.{Image}
use Rattle.phys_log.specs.Logs.{pages_of}
use Rattle.phys_log.specs.declared.entries.Entry.{Entry}
use Rattle.log_rows.specs.History.{tables_of}
use Rattle.table_state.specs.States.{HasState}

-- a value has no number in a blob that is no byte
abbrev pub IsOfBytes : Value → Type 0
IsOfBytes Null = Unit {0}
IsOfBytes (Int n) = Unit {0}
IsOfBytes (Text text) = Unit {0}
IsOfBytes (Blob blob) = AllByRecursion (λ b. b < 256) blob

-- the rows of a table's versions, and those of all tables
abbrev pub RowIsOfBytes : Version → Type 0
RowIsOfBytes v = AllByRecursion IsOfBytes v.row

abbrev pub RowsAreOfBytes : List (List Version) → Type 0
RowsAreOfBytes tables = AllByRecursion (λ versions. AllByRecursion RowIsOfBytes versions) tables

-- the rows for which pages stand
abbrev pub StandForBytes : (ℕ → Image) → List TableDef → Type 0
StandForBytes pages tables = (rows : Rows) → HasState pages tables rows → RowsAreOfBytes rows.tables

-- the rows of a log
abbrev pub AreOfBytes : List Entry → Type 0
AreOfBytes entries = StandForBytes (pages_of entries) (tables_of entries)
