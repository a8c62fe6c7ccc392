-- States that texts can be answered on, and what a transaction that ran alone on one can do to it.
--
-- Its operations can be done on the state that it ran on, and behind later entries that took away none of the
-- versions that it takes away; so they can at a commit without a conflict. The state that they leave is again one
-- that texts can be answered on. A transaction draws a few genids at most, so the next one stays one of 64 bits for
-- long.
use Rattle.std.specs.Prelude.{ℕ, ◌+◌, ◌^◌, ◌<◌, ◌≤◌, List, length}
use Rattle.std.specs.List.{AllByRecursion}
use Rattle.cdb_values.specs.Good.{AllFit}
use Rattle.cdb_values.specs.Rows.{Rows, no_rows, apply_all}
use Rattle.cdb_values.specs.declared.limits.TheConstants.{MOST_NET_OPERATIONS}
use Rattle.cdb_values.specs.declared.rows.RowOp.{RowOp}
use Rattle.cdb_values.specs.declared.tables.TableDef.{TableDef}
use Rattle.query_laws.specs.Alone.{sql_language}
use Rattle.session_language.specs.Language.{alone}
use Rattle.session_language.specs.Spelled.{HaveRows, AreTexts}
use Rattle.sql_run.specs.Sound.{AreSound, HasDistinctColumns}
use Rattle.table_edits.specs.Fits.{WritesFitting, AreAllDoable}
use Rattle.table_store.specs.States.{IsState}
use Rattle.live_operations.specs.Live.{TakeOthers, rows_behind}

-- tables that texts can be answered over: none has two columns of one name
abbrev pub AreTables : List TableDef → Type 0
AreTables tables = AllByRecursion HasDistinctColumns tables

-- a state that texts can be answered on: one of pages, whose rows fit their tables and have values that can be told
pub record IsReady (tables : List TableDef) (rows : Rows) : Type 0 where
  pub state : IsState tables rows
  pub sound : AreSound tables rows.next rows.tables
  pub told : HaveRows rows.tables

-- these are the states of pages whose rows fit their tables and have values that can be told: what is sound besides is that
-- each genid is below the next one
abbrev pub ReadyFit : Type 0
ReadyFit = (tables : List TableDef) (rows : Rows) → IsReady tables rows → AllFit tables rows.tables

abbrev pub FitAreReady : Type 0
FitAreReady = (tables : List TableDef) (rows : Rows) → IsState tables rows → AllFit tables rows.tables → HaveRows rows.tables → IsReady tables rows

-- the operations of a transaction that runs alone on a state
abbrev pub ops_alone : List TableDef → Rows → List (List ℕ) → List RowOp
ops_alone tables rows texts = (alone sql_language tables rows texts).ops

-- they write rows that fit the trees
abbrev pub AloneFit : Type 0
AloneFit = (tables : List TableDef) (rows : Rows) (texts : List (List ℕ)) → AreTables tables → IsReady tables rows
    → AllByRecursion (WritesFitting tables) (ops_alone tables rows texts)

-- and can be done there
abbrev pub AloneAreDoable : Type 0
AloneAreDoable = (tables : List TableDef) (rows : Rows) (texts : List (List ℕ)) → AreTables tables → IsReady tables rows → AreTexts texts
    → (apply_all rows (ops_alone tables rows texts)).next < 2 ^ 64 → AreAllDoable rows (ops_alone tables rows texts)

-- and behind entries that take away none of the versions that they take away
abbrev pub LaterAreDoable : Type 0
LaterAreDoable = (tables : List TableDef) (rows : Rows) (texts : List (List ℕ)) (entries : List (List RowOp))
    → AreTables tables → IsReady tables rows → AreTexts texts → AllByRecursion (TakeOthers (ops_alone tables rows texts)) entries
    → (apply_all (rows_behind rows entries) (ops_alone tables rows texts)).next < 2 ^ 64 → AreAllDoable (rows_behind rows entries) (ops_alone tables rows texts)

-- tables without rows are such a state
abbrev pub NoRowsAreReady : Type 0
NoRowsAreReady = (tables : List TableDef) → IsReady tables (no_rows tables)

-- and what a transaction that ran alone on such a state makes of such a state, the same one or another, is one again
abbrev pub StayReady : Type 0
StayReady = (tables : List TableDef) (rows now : Rows) (texts : List (List ℕ)) → AreTables tables → IsReady tables rows → IsReady tables now → AreTexts texts
    → (apply_all now (ops_alone tables rows texts)).next < 2 ^ 64 → IsReady tables (apply_all now (ops_alone tables rows texts))

-- a transaction has so many operations at most
abbrev pub AloneAreFew : Type 0
AloneAreFew = (tables : List TableDef) (rows : Rows) (texts : List (List ℕ)) → length (ops_alone tables rows texts) ≤ MOST_NET_OPERATIONS

-- and draws so many genids at most, on any rows
abbrev pub AloneDrawFew : Type 0
AloneDrawFew = (tables : List TableDef) (rows now : Rows) (texts : List (List ℕ)) → (apply_all now (ops_alone tables rows texts)).next ≤ now.next + MOST_NET_OPERATIONS
