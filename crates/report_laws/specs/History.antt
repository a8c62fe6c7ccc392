-- The history, the rows at its positions, and what its entries change.
--
-- The history is the list of entries after the base. The rows at the base are given. After the
-- schema's entry there are its tables without rows. After a transaction's entry there are the rows
-- before it with the transaction's operations applied, which are those of the transaction run alone
-- on the rows at its begin position. What an entry changes are the changes of these operations.
-- The laws look at none of this: they ask a view of the history, which these entries give (`view_of`).
use Rattle.std.specs.Prelude.{◌≡◌, ℕ, ◌+◌, ◌-◌, ◌≤◌, ◌<◌, ◌++◌, ◌∷◌, ◌==◌, ◌&&◌, ◌≢◌, [], List, Bool, false, Option, Some, None, unwrap_or, slice_get, length, take}
use Rattle.std.specs.Str.{bytes_eq}
use Rattle.cdb_values.specs.Changes.{changes_of}
use Rattle.cdb_values.specs.Good.{IsGood}
use Rattle.cdb_values.specs.Rows.{Rows, no_rows, apply_all}
use Rattle.cdb_values.specs.declared.rows.Change.{Change}
use Rattle.cdb_values.specs.declared.rows.Level.{Level}
use Rattle.cdb_values.specs.declared.rows.RowOp.{RowOp}
use Rattle.cdb_values.specs.declared.tables.TableDef.{TableDef}
use Rattle.script_form.specs.declared.scripts.Script.{Script}
use Rattle.session_language.specs.Language.{Language, Answered, alone}
use Rattle.session_language.specs.Touched.{used_at}
use Rattle.report_laws.specs.View.{View, IsUntouched}
use Rattle.report_laws.specs.Work.{Transaction, transaction_of}
use Rattle.report_text.specs.declared.reports.EntryLine.{EntryLine}
use Rattle.report_text.specs.declared.reports.EntryLine.TheVariants.{Setup, Commit}

-- where a run begins: the length of the history before it, the tables, and the rows there
pub record Origin : Type 0 where
  pub position : ℕ
  pub tables : List TableDef
  pub rows : Rows

-- a history that begins with this run, over these tables
abbrev pub nothing_before : List TableDef → Origin
nothing_before tables = record { position = 0; tables = tables; rows = no_rows [] }

-- what a report is judged by: the language of the sessions, the script, and where the run begins
pub record Basis : Type 0 where
  pub language : Language
  pub script : Script
  pub origin : Origin

-- a transaction's texts, run alone on these rows
abbrev pub alone_on : Basis → Rows → List (List ℕ) → Answered
alone_on basis rows texts = alone basis.language basis.origin.tables rows texts

-- the operations of a transaction, run alone on these rows
abbrev pub ops_alone : Basis → Rows → Option Transaction → List RowOp
ops_alone basis rows None = []
ops_alone basis rows (Some t) = (alone_on basis rows t.texts).ops

-- the rows at a position, among the rows at each position from the origin on
abbrev pub rows_among : Origin → List Rows → ℕ → Rows
rows_among origin states position = unwrap_or (slice_get states (position - origin.position)) origin.rows

-- the operations of an entry, where these are the rows at each position before it
abbrev pub ops_of : Basis → List Rows → EntryLine → List RowOp
ops_of basis states (Setup position) = []
ops_of basis states (Commit position session txn begin level) =
    ops_alone basis (rows_among basis.origin states begin) (transaction_of basis.language session txn basis.script.body)

-- the rows after an entry, where these are the rows at each position before it
abbrev pub rows_after : Basis → List Rows → EntryLine → Rows
rows_after basis states (Setup position) = no_rows basis.origin.tables
rows_after basis states (Commit position session txn begin level) =
    apply_all (rows_among basis.origin states (position - 1)) (ops_of basis states (Commit position session txn begin level))

abbrev pub states_from : Basis → List Rows → List EntryLine → List Rows
states_from basis states [] = states
states_from basis states (e ∷ es) = states_from basis (states ++ rows_after basis states e ∷ []) es

-- the rows at each position, from the origin on
abbrev pub states_of : Basis → List EntryLine → List Rows
states_of basis entries = states_from basis (basis.origin.rows ∷ []) entries

-- the rows at a position
abbrev pub rows_at : Basis → List EntryLine → ℕ → Rows
rows_at basis entries position = rows_among basis.origin (states_of basis entries) position

-- the last position of the history
abbrev pub last_position : Origin → List EntryLine → ℕ
last_position origin entries = origin.position + length entries

-- the entry at a position after the origin
abbrev pub entry_at : Origin → List EntryLine → ℕ → Option EntryLine
entry_at origin entries position = slice_get entries (position - (origin.position + 1))

-- what an entry changes, where these are the rows at each position before it
abbrev pub changes_by : Basis → List Rows → Option EntryLine → List Change
changes_by basis states None = []
changes_by basis states (Some (Setup position)) = []
changes_by basis states (Some (Commit position session txn begin level)) =
    changes_of (ops_of basis states (Commit position session txn begin level)) (rows_among basis.origin states (position - 1)).next

-- the entries before that position
abbrev pub entries_before : Origin → List EntryLine → ℕ → List EntryLine
entries_before origin entries position = take (position - (origin.position + 1)) entries

-- what the entry at a position changes
abbrev pub changes_at : Basis → List EntryLine → ℕ → List Change
changes_at basis entries position =
    changes_by basis (states_of basis (entries_before basis.origin entries position)) (entry_at basis.origin entries position)

-- the history as the laws see it
abbrev pub view_of : Basis → List EntryLine → View
view_of basis entries = record {
  tables = basis.origin.tables;
  rows = rows_at basis entries;
  entry = entry_at basis.origin entries;
  changes = changes_at basis entries;
  last = last_position basis.origin entries;
}

-- whether an entry is that transaction's
abbrev pub is_entry_of : List ℕ → ℕ → EntryLine → Bool
is_entry_of name number (Setup position) = false
is_entry_of name number (Commit position session txn begin level) = bytes_eq session name && (txn == number)

-- a transaction's entry is right after the history before it: it is the next position, no entry of this
-- run is of that transaction, it began at a position before it, the transaction is one of the session's
-- work at that level and has operations on the rows at its begin position, no entry after that
-- position touches what it uses at its level, and the rows at the entry are good
pub record IsCommitAfter (basis : Basis) (before : View) (position : ℕ) (session : List ℕ) (txn begin : ℕ) (level : Level) : Type 0 where
  pub placed : position ≡ before.last + 1
  pub once : (k : ℕ) (e : EntryLine) → basis.origin.position < k → before.entry k ≡ Some e → is_entry_of session txn e ≡ false
  pub begun : (1 ≤ begin) × (basis.origin.position ≤ begin) × (begin < position)
  pub transaction : Transaction
  pub is_its : transaction_of basis.language session txn basis.script.body ≡ Some transaction
  pub is_level : level ≡ transaction.level
  pub ran : Answered
  pub is_ran : ran ≡ alone_on basis (before.rows begin) transaction.texts
  pub has_ops : ran.ops ≢ []
  pub untouched : IsUntouched before begin position (used_at level ran)
  pub is_good : IsGood basis.origin.tables (apply_all (before.rows before.last) ran.ops).tables

-- an entry is right after those before it; the schema's is the first position of all
abbrev pub IsEntryAfter : Basis → List EntryLine → EntryLine → Type 0
IsEntryAfter basis before (Setup position) = (before ≡ []) × (basis.origin.position ≡ 0) × (position ≡ 1)
IsEntryAfter basis before (Commit position session txn begin level) = IsCommitAfter basis (view_of basis before) position session txn begin level
