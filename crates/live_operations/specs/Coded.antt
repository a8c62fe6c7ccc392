-- Operations that can be done on the pages of a store: they are live, and the rows that they write have codes and
-- fit the trees.
--
-- Sound operations write rows that fit. Their rows have codes where their values can be told, with integers of 64 bits. Such
-- rows are what texts of UTF-8 leave: without this a row might hold a text that is no UTF-8, whose code could not be read again.
use Rattle.std.specs.Prelude.{◌≡◌, ℕ, ◌^◌, ◌<◌, List, length, true}
use Rattle.std.specs.List.{AllByRecursion}
use Rattle.std.specs.Str.{is_utf8}
use Rattle.cdb_values.specs.Rows.{Rows, apply_all}
use Rattle.cdb_values.specs.Views.{IsOnBase}
use Rattle.cdb_values.specs.declared.rows.RowOp.{RowOp}
use Rattle.cdb_values.specs.declared.rows.RowOp.TheVariants.{Insert, Update, Delete}
use Rattle.cdb_values.specs.declared.rows.Version.{Version}
use Rattle.cdb_values.specs.declared.tables.TableDef.{TableDef}
use Rattle.key_code.specs.Codes.{IsRowValue}
use Rattle.query_laws.specs.Alone.{sql_language}
use Rattle.session_language.specs.Language.{alone_from}
use Rattle.session_language.specs.Spelled.{AreTexts, WritesRow, HaveRows}
use Rattle.sql_run.specs.Sound.{AreSound, HasDistinctColumns, IsSoundOp}
use Rattle.table_edits.specs.Fits.{WritesFitting, AreAllDoable}
use Rattle.table_store.specs.Operations.{born}
use Rattle.live_operations.specs.Live.{AreLive}
use Rattle.live_operations.specs.Ranged.{WritesRanged}

-- the row that an operation writes, if it writes one, has a code from which it can be read again
abbrev pub WritesCoded : RowOp → Type 0
WritesCoded (Insert table row) = AllByRecursion IsRowValue row
WritesCoded (Update table target old row) = AllByRecursion IsRowValue row
WritesCoded (Delete table target old) = Unit {0}

-- and so have all rows that operations write, to any table and from any next genid on
abbrev pub HaveCodes : List RowOp → Type 0
HaveCodes ops = (table next : ℕ) → AllByRecursion (λ v. AllByRecursion IsRowValue v.row) (born table next ops)

-- operations that are live, whose rows have codes, and that leave a next genid of 64 bits can be done
abbrev pub LiveAreDoable : Type 0
LiveAreDoable = (rows : Rows) (ops : List RowOp) → AreLive rows.tables ops
    → ((table : ℕ) → AllByRecursion (λ v. AllByRecursion IsRowValue v.row) (born table rows.next ops))
    → (apply_all rows ops).next < 2 ^ 64 → AreAllDoable rows ops

-- sound operations that write rows of values that can be told, with integers of 64 bits, write rows with codes
abbrev pub SoundHaveCodes : Type 0
SoundHaveCodes = (tables : List TableDef) (next : ℕ) (ops : List RowOp) → AllByRecursion (IsSoundOp tables next) ops
    → AllByRecursion WritesRow ops → AllByRecursion WritesRanged ops → HaveCodes ops

-- sound operations write rows that fit the trees of their tables
abbrev pub SoundFit : Type 0
SoundFit = (tables : List TableDef) (next : ℕ) (ops : List RowOp) → AllByRecursion (IsSoundOp tables next) ops → AllByRecursion (WritesFitting tables) ops

-- and name tables that are there, and versions of the base alone
abbrev pub SoundAreBased : Type 0
SoundAreBased = (tables : List TableDef) (next : ℕ) (ops : List RowOp) → AllByRecursion (IsSoundOp tables next) ops
    → AllByRecursion (IsOnBase (length tables) next) ops

-- over sound rows, and behind sound operations, texts one after the other leave sound operations
abbrev pub TextsLeaveSound : Type 0
TextsLeaveSound = (tables : List TableDef) (versions : List (List Version)) (done : List RowOp) (texts : List (List ℕ)) (next : ℕ)
    → AllByRecursion HasDistinctColumns tables → AreSound tables next versions → AllByRecursion (IsSoundOp tables next) done
    → AllByRecursion (IsSoundOp tables next) (alone_from sql_language tables versions done texts).ops

-- over rows of values that can be told, and behind operations that write such rows, texts one after the other leave
-- operations that write such rows
abbrev pub TextsLeaveWritten : Type 0
TextsLeaveWritten = (tables : List TableDef) (versions : List (List Version)) (done : List RowOp) (texts : List (List ℕ))
    → AreTexts texts → HaveRows versions → AllByRecursion WritesRow done
    → AllByRecursion WritesRow (alone_from sql_language tables versions done texts).ops
