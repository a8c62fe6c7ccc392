-- Rows whose integers are of 64 bits. A text of SQL has no others: a literal out of 64 bits is a syntax error, and a
-- sum that leaves them fails its statement.
use Rattle.std.specs.Prelude.{ℕ, List}
use Rattle.std.specs.List.{AllByRecursion}
use Rattle.cdb_values.specs.declared.rows.RowOp.{RowOp}
use Rattle.cdb_values.specs.declared.rows.RowOp.TheVariants.{Insert, Update, Delete}
use Rattle.cdb_values.specs.declared.rows.Version.{Version}
use Rattle.cdb_values.specs.declared.tables.TableDef.{TableDef}
use Rattle.cdb_values.specs.declared.values.Value.{Value}
use Rattle.key_code.specs.Codes.{IsInRange}
use Rattle.query_laws.specs.Alone.{sql_language}
use Rattle.session_language.specs.Language.{alone_from}

abbrev pub IsRanged : List Value → Type 0
IsRanged row = AllByRecursion IsInRange row

-- the versions of all tables have such rows
abbrev pub HaveRanged : List (List Version) → Type 0
HaveRanged versions = AllByRecursion (λ vs. AllByRecursion (λ v. IsRanged v.row) vs) versions

-- an operation writes such a row, if it writes one
abbrev pub WritesRanged : RowOp → Type 0
WritesRanged (Insert table row) = IsRanged row
WritesRanged (Update table target old row) = IsRanged row
WritesRanged (Delete table target old) = Unit {0}

-- over such rows, and behind such operations, each text leaves such operations
abbrev pub TextLeavesRanged : Type 0
TextLeavesRanged = (tables : List TableDef) (versions : List (List Version)) (done : List RowOp) (text : List ℕ)
    → HaveRanged versions → AllByRecursion WritesRanged done → AllByRecursion WritesRanged (sql_language.answer tables versions done text).ops

-- and so do texts one after the other
abbrev pub TextsLeaveRanged : Type 0
TextsLeaveRanged = (tables : List TableDef) (versions : List (List Version)) (done : List RowOp) (texts : List (List ℕ))
    → HaveRanged versions → AllByRecursion WritesRanged done → AllByRecursion WritesRanged (alone_from sql_language tables versions done texts).ops
