-- What a text of SQL has to be given, so that it leaves operations that write rows of values that can be told: a text that is
-- UTF-8, since else a literal is no text. So that it is answered by rows of the grammar of reports, but for the sizes of integers,
-- the tables have to have a column or more, too: else `*` is no item, and a row without values is told.
use Rattle.std.specs.Prelude.{◌≡◌, ℕ, List, [], ◌∷◌, true}
use Rattle.std.specs.List.{AllByRecursion}
use Rattle.std.specs.Str.{is_utf8}
use Rattle.cdb_values.specs.declared.rows.RowOp.{RowOp}
use Rattle.cdb_values.specs.declared.rows.Version.{Version}
use Rattle.cdb_values.specs.declared.tables.ColumnDef.{ColumnDef}
use Rattle.cdb_values.specs.declared.tables.TableDef.{TableDef}
use Rattle.session_language.specs.Spelled.{SpellsReply, WritesRow, HaveRows}
use Rattle.query_laws.specs.Alone.{sql_language}

abbrev pub HasColumn : List ColumnDef → Type 0
HasColumn [] = ⊥
HasColumn (column ∷ columns) = Unit {0}

-- a table with a column or more
abbrev pub HasColumns : TableDef → Type 0
HasColumns table = HasColumn table.columns

-- what holds of each text over such tables, over rows of values that can be told, and behind operations that write such rows
abbrev pub RepliesBySuchRows : Type 0
RepliesBySuchRows = (tables : List TableDef) (versions : List (List Version)) (done : List RowOp) (text : List ℕ)
    → AllByRecursion HasColumns tables → is_utf8 text ≡ true
    → HaveRows versions → AllByRecursion WritesRow done → AllByRecursion SpellsReply (sql_language.answer tables versions done text).replies

-- and over any tables
abbrev pub LeavesSuchRows : Type 0
LeavesSuchRows = (tables : List TableDef) (versions : List (List Version)) (done : List RowOp) (text : List ℕ) → is_utf8 text ≡ true
    → HaveRows versions → AllByRecursion WritesRow done → AllByRecursion WritesRow (sql_language.answer tables versions done text).ops
