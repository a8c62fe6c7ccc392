-- Intervals that are touched by what changes say: by the rows that they name, and not by looking up what
-- the state has there. Where operations name their targets' rows rightly, both are the same.
use Rattle.std.specs.Prelude.{◌≡◌, ℕ, ◌<◌, ◌-◌, ◌==◌, List, Bool, false, ◌&&◌, ◌||◌}
use Rattle.std.specs.List.{list_any, AllByRecursion}
use Rattle.cdb_values.specs.Changes.{changes_of}
use Rattle.cdb_values.specs.Rows.{Rows}
use Rattle.cdb_values.specs.declared.rows.Change.{Change}
use Rattle.cdb_values.specs.declared.rows.Change.TheVariants as change
use Rattle.cdb_values.specs.declared.rows.Level.TheVariants.{Serializable}
use Rattle.cdb_values.specs.declared.rows.RowOp.{RowOp}
use Rattle.cdb_values.specs.declared.tables.TableDef.{TableDef}
use Rattle.cdb_values.specs.declared.values.Value.{Value}
use Rattle.sql_answer.specs.Answers.{Meaning, answer, ops_after}
use Rattle.session_language.specs.Serial.{IsTrueOp, IsSound}
use Rattle.query_laws.specs.Intervals.{Interval, lies}
use Rattle.serial_laws.specs.Histories.{Entry, Setup, Commit, Origin, IsBegun, AllEntries, statements_alone, rows_at, ops_at}

-- whether a row of a table lies in an interval
abbrev pub lies_in : List TableDef → Interval → ℕ → List Value → Bool
lies_in tables interval table row = (table == interval.table) && lies tables interval row

-- whether a change takes away or adds a row that lies in an interval
abbrev pub change_touches : List TableDef → Interval → Change → Bool
change_touches tables interval (change.Insert table genid row) = lies_in tables interval table row
change_touches tables interval (change.Update table genid old new row) = lies_in tables interval table old || lies_in tables interval table row
change_touches tables interval (change.Delete table genid old) = lies_in tables interval table old

abbrev pub changes_touch : List TableDef → Interval → List Change → Bool
changes_touch tables interval changes = list_any (change_touches tables interval) changes

-- statements add operations that name their targets' rows rightly, behind operations that do
abbrev pub TellsTrue : List TableDef → Type 0
TellsTrue tables = (rows : Rows) (ops : List RowOp) (statement : Meaning) → IsSound rows → AllByRecursion (IsTrueOp rows) ops
    → AllByRecursion (IsTrueOp rows) (ops_after ops (answer tables rows.tables ops statement))

-- what the entry at a position changes
abbrev pub changes_at : List TableDef → Origin → List Entry → ℕ → List Change
changes_at tables origin es position = changes_of (ops_at tables origin es position) (rows_at tables origin es (position - 1)).next

-- no entry between two positions, both left out, touches an interval by its changes
abbrev pub IsUnchanged : List TableDef → Origin → List Entry → ℕ → ℕ → Interval → Type 0
IsUnchanged tables origin es begin position interval =
    (j : ℕ) → begin < j → j < position → changes_touch tables interval (changes_at tables origin es j) ≡ false

-- what an entry is to be, by the changes of the entries before it
abbrev pub IsFair : List TableDef → Origin → List Entry → ℕ → Entry → Type 0
IsFair tables origin es position Setup = position ≡ 1
IsFair tables origin es position (Commit statements begin level) = IsBegun origin begin position
    × (level ≡ Serializable → AllByRecursion (IsUnchanged tables origin es begin position) (statements_alone tables (rows_at tables origin es begin) statements).ranges)

abbrev pub AllFair : List TableDef → Origin → List Entry → Type 0
AllFair tables origin es = AllEntries origin es (IsFair tables origin es)
