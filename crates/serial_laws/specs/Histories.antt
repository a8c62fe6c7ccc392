-- The history of a database of SQL: the schema's entry and committed transactions, the rows at its
-- positions, and what it is for it to be serial.
--
-- A transaction is here what its texts mean. After the schema's entry there are its tables without rows.
-- After a transaction's entry there are the rows before it with the operations applied that its statements
-- have, run alone on the rows at its begin position.
use Rattle.std.specs.Prelude.{◌≡◌, ℕ, ◌+◌, ◌-◌, ◌<◌, ◌≤◌, ◌++◌, ◌∷◌, [], List, false, unwrap_or, slice_get, length, Option, Some, None}
use Rattle.std.specs.List.{AllByRecursion}
use Rattle.cdb_values.specs.Rows.{Rows, no_rows, apply_all}
use Rattle.cdb_values.specs.declared.rows.RowOp.{RowOp}
use Rattle.cdb_values.specs.declared.rows.Level.{Level}
use Rattle.cdb_values.specs.declared.rows.Level.TheVariants.{Serializable}
use Rattle.cdb_values.specs.declared.tables.TableDef.{TableDef}
use Rattle.sql_answer.specs.Answers.{Meaning}
use Rattle.query_laws.specs.Intervals.{Interval}
use Rattle.query_laws.specs.Runs.{Run, run_from, lasting_statements, run_without_failures}
use Rattle.query_laws.specs.Touched.{touches}

-- the schema's entry, or a committed transaction: its statements, its begin position and its level
pub data Entry : Type 0 where
  Setup : Entry
  Commit : List Meaning → ℕ → Level → Entry

-- where a history begins: the positions before it, and the rows there
pub record Origin : Type 0 where
  pub position : ℕ
  pub rows : Rows

-- the rows at a position, among the rows at each position from the origin on
abbrev pub rows_among : Origin → List Rows → ℕ → Rows
rows_among origin states position = unwrap_or (slice_get states (position - origin.position)) origin.rows

-- a transaction's statements, run alone on these rows
abbrev pub statements_alone : List TableDef → Rows → List Meaning → Run
statements_alone tables rows statements = run_from tables rows.tables [] statements

-- the statements of a transaction that do not fail on these rows
abbrev pub lasting_on : List TableDef → Rows → List Meaning → List Meaning
lasting_on tables rows statements = lasting_statements tables rows.tables [] statements

-- the operations of an entry, where these are the rows at each position before it
abbrev pub ops_of : List TableDef → Origin → List Rows → Entry → List RowOp
ops_of tables origin states Setup = []
ops_of tables origin states (Commit statements begin level) = (statements_alone tables (rows_among origin states begin) statements).ops

-- the rows after an entry, where these are the rows at each position before it
abbrev pub rows_after : List TableDef → Origin → List Rows → Entry → Rows
rows_after tables origin states Setup = no_rows tables
rows_after tables origin states (Commit statements begin level) =
    apply_all (unwrap_or (slice_get states (length states - 1)) origin.rows) (statements_alone tables (rows_among origin states begin) statements).ops

abbrev pub states_from : List TableDef → Origin → List Rows → List Entry → List Rows
states_from tables origin states [] = states
states_from tables origin states (e ∷ es) = states_from tables origin (states ++ rows_after tables origin states e ∷ []) es

-- the rows at each position, from the origin on
abbrev pub states_of : List TableDef → Origin → List Entry → List Rows
states_of tables origin es = states_from tables origin (origin.rows ∷ []) es

-- the rows at a position
abbrev pub rows_at : List TableDef → Origin → List Entry → ℕ → Rows
rows_at tables origin es position = rows_among origin (states_of tables origin es) position

-- the entry at a position after the origin
abbrev pub entry_at : Origin → List Entry → ℕ → Option Entry
entry_at origin es position = slice_get es (position - (origin.position + 1))

abbrev pub ops_or_none : List TableDef → Origin → List Rows → Option Entry → List RowOp
ops_or_none tables origin states None = []
ops_or_none tables origin states (Some e) = ops_of tables origin states e

-- the operations of the entry at a position
abbrev pub ops_at : List TableDef → Origin → List Entry → ℕ → List RowOp
ops_at tables origin es position = ops_or_none tables origin (states_of tables origin es) (entry_at origin es position)

-- no entry between two positions, both left out, touches an interval, by the rows of the state
abbrev pub IsUntouched : List TableDef → Origin → List Entry → ℕ → ℕ → Interval → Type 0
IsUntouched tables origin es begin position interval =
    (j : ℕ) → begin < j → j < position → touches tables interval (rows_at tables origin es (j - 1)) (ops_at tables origin es j) ≡ false

-- a begin position before an entry, at which there was a schema
pub record IsBegun (origin : Origin) (begin position : ℕ) : Type 0 where
  pub first : 1 ≤ begin
  pub after : origin.position ≤ begin
  pub before : begin < position

-- the schema's entry is the first of all, and each transaction began before its entry
abbrev pub IsPlaced : Origin → ℕ → Entry → Type 0
IsPlaced origin position Setup = position ≡ 1
IsPlaced origin position (Commit statements begin level) = IsBegun origin begin position

-- what an entry is to be: placed, and at level serializable with nothing touched since its begin that it read
abbrev pub IsRight : List TableDef → Origin → List Entry → ℕ → Entry → Type 0
IsRight tables origin es position Setup = position ≡ 1
IsRight tables origin es position (Commit statements begin level) = IsBegun origin begin position
    × (level ≡ Serializable → AllByRecursion (IsUntouched tables origin es begin position) (statements_alone tables (rows_at tables origin es begin) statements).ranges)

-- what holds of each entry and its position
abbrev pub AllEntries : Origin → List Entry → (ℕ → Entry → Type 0) → Type 0
AllEntries origin es P = (position : ℕ) (e : Entry) → origin.position < position → position ≤ origin.position + length es → entry_at origin es position ≡ Some e → P position e

abbrev pub AllRight : List TableDef → Origin → List Entry → Type 0
AllRight tables origin es = AllEntries origin es (IsRight tables origin es)

-- run alone on the rows right before its entry, without the statements that failed, a transaction at level
-- serializable has the same operations, and is told what it was told
abbrev pub IsSerialAt : List TableDef → Origin → List Entry → ℕ → Entry → Type 0
IsSerialAt tables origin es position Setup = Unit {0}
IsSerialAt tables origin es position (Commit statements begin level) = level ≡ Serializable →
    statements_alone tables (rows_at tables origin es (position - 1)) (lasting_on tables (rows_at tables origin es begin) statements)
    ≡ run_without_failures (statements_alone tables (rows_at tables origin es begin) statements)

-- each transaction at level serializable is answered as if it ran alone, in the order of the history
abbrev pub IsSerial : List TableDef → Origin → List Entry → Type 0
IsSerial tables origin es = AllEntries origin es (IsSerialAt tables origin es)
