-- A small language: that of the statements which the worked examples say. The laws of reports take the language of the
-- sessions as a parameter, and hold of every one, so a small one shows them as well.
--
-- It has a few texts, each on the table at place 0, t(id, v). Its answers are those of SQL: a transaction sees the
-- versions of its begin position, by rising genid, without those that its operations took away, and then the rows that
-- its operations wrote, in their order. An update of a row of its own takes the operation that wrote it out and puts it
-- at the end with the new row; a delete of one takes it out and leaves the delete of the version that it had taken
-- away, if there is one. Any other text is answered as an error.
use Rattle.std.specs.Prelude.{ℕ, ◌+◌, ◌++◌, ◌∷◌, ◌==◌, ◌&&◌, [], List, Bool, true, false, not, if◌then◌else◌, Option, Some, None, map, filter, length, slice_get, slice_set, unwrap_or, codes, pos, bytes_eq}
use Rattle.std.specs.List.{list_any}
use Rattle.std.specs.Ordering.{is_eq}
use Rattle.cdb_values.specs.Order.{value_order}
use Rattle.cdb_values.specs.Rows.{Rows, takes, written}
use Rattle.cdb_values.specs.declared.items.Edge.TheVariants.{Free}
use Rattle.cdb_values.specs.declared.items.Interval.{Interval}
use Rattle.cdb_values.specs.declared.rows.Level.{Level}
use Rattle.cdb_values.specs.declared.rows.Level.TheVariants.{Serializable}
use Rattle.cdb_values.specs.declared.rows.RowOp.{RowOp}
use Rattle.cdb_values.specs.declared.rows.RowOp.TheVariants as op
use Rattle.cdb_values.specs.declared.rows.RowRef.TheVariants.{Base}
use Rattle.cdb_values.specs.declared.rows.StatementError.{StatementError}
use Rattle.cdb_values.specs.declared.rows.StatementError.TheVariants as error
use Rattle.cdb_values.specs.declared.rows.Version.{Version}
use Rattle.cdb_values.specs.declared.values.Value.{Value}
use Rattle.cdb_values.specs.declared.values.Value.TheVariants.{Int}
use Rattle.script_form.specs.CanRun.{script_tables}
use Rattle.script_form.specs.declared.scripts.Script.{Script}
use Rattle.report_laws.specs.History.{Basis, nothing_before}
use Rattle.session_language.specs.Language.{Answered, Language, Kind, BeginText, CommitText, RollbackText, LevelText, OtherText}
use Rattle.cdb_values.specs.declared.replies.Reply.{Reply}
use Rattle.cdb_values.specs.declared.replies.Reply.TheVariants as reply

-- a statement: it begins, commits or rolls back a transaction, inserts the row of an id and a v, selects all rows or an id's, sets the
-- level of later transactions, sets the v of an id's rows, or deletes an id's rows
pub data Statement : Type 0 where
  Begin : Statement
  Commit : Statement
  Rollback : Statement
  Insert : ℕ → ℕ → Statement
  SelectAll : Statement
  SelectWhere : ℕ → Statement
  SetLevel : Level → Statement
  SetWhere : ℕ → ℕ → Statement
  DeleteWhere : ℕ → Statement

-- the statement of a text, if it is one
abbrev pub statement_of : List ℕ → Option Statement
statement_of text =
    if bytes_eq text (codes "begin") then Some Begin
    else if bytes_eq text (codes "commit") then Some Commit
    else if bytes_eq text (codes "rollback") then Some Rollback
    else if bytes_eq text (codes "insert into t values(1, 1)") then Some (Insert 1 1)
    else if bytes_eq text (codes "insert into t values(1, 2)") then Some (Insert 1 2)
    else if bytes_eq text (codes "insert into t values(1, 3)") then Some (Insert 1 3)
    else if bytes_eq text (codes "insert into t values(1, 10)") then Some (Insert 1 10)
    else if bytes_eq text (codes "insert into t values(2, 20)") then Some (Insert 2 20)
    else if bytes_eq text (codes "select * from t") then Some SelectAll
    else if bytes_eq text (codes "select * from t where id = 1") then Some (SelectWhere 1)
    else if bytes_eq text (codes "select * from t where id = 2") then Some (SelectWhere 2)
    else if bytes_eq text (codes "set transaction serializable") then Some (SetLevel Serializable)
    else if bytes_eq text (codes "update t set v = 11 where id = 1") then Some (SetWhere 11 1)
    else if bytes_eq text (codes "update t set v = 12 where id = 1") then Some (SetWhere 12 1)
    else if bytes_eq text (codes "update t set v = 21 where id = 2") then Some (SetWhere 21 2)
    else if bytes_eq text (codes "delete from t where id = 1") then Some (DeleteWhere 1)
    else if bytes_eq text (codes "delete from t where id = 2") then Some (DeleteWhere 2)
    else None

-- an answer by these replies, with these operations of the transaction after it
abbrev pub answered : List Reply → List RowOp → Answered
answered replies ops = record { replies = replies; ops = ops; uses = []; ranges = []; failed = false }

-- and with an interval that was read for it
abbrev pub reading : Interval → Answered → Answered
reading range a = record { replies = a.replies; ops = a.ops; uses = a.uses; ranges = range ∷ []; failed = a.failed }

-- an answer that adds no operation
abbrev pub only_told : List RowOp → List Reply → Answered
only_told done replies = answered replies done

-- what a row has to have: a value at a column's place
pub record Condition : Type 0 where
  pub column : ℕ
  pub value : Value

-- the interval of a table that is read for a condition: the rows of an id by the key, or the whole table
abbrev pub range_of : ℕ → Option Condition → Interval
range_of table None = record { table = table; key = None; equal = []; low = Free; high = Free; empty = false }
range_of table (Some condition) = record { table = table; key = Some 0; equal = condition.value ∷ []; low = Free; high = Free; empty = false }

-- whether a row has that value there; NULL is no value of a statement, and equals none
abbrev pub is_value : Value → Option Value → Bool
is_value wanted None = false
is_value wanted (Some found) = is_eq (value_order found wanted)

-- whether a row meets a condition, if there is one
abbrev pub meets : Option Condition → List Value → Bool
meets None row = true
meets (Some condition) row = is_value condition.value (slice_get row condition.column)

-- the versions of a table, by its place
abbrev pub of_table : List (List Version) → ℕ → List Version
of_table versions table = unwrap_or (slice_get versions table) []

-- the versions of a table that operations did not take away
abbrev pub left_by : List RowOp → ℕ → List Version → List Version
left_by done table versions = filter (λ v. not (list_any (takes table v.genid) done)) versions

-- of these, those that meet a condition
abbrev pub chosen : Option Condition → List Version → List Version
chosen condition versions = filter (λ v. meets condition v.row) versions

-- whether an operation wrote a row of that table that meets a condition
abbrev pub is_matching_write : ℕ → Option Condition → RowOp → Bool
is_matching_write table condition (op.Insert place row) = (place == table) && meets condition row
is_matching_write table condition (op.Update place target old row) = (place == table) && meets condition row
is_matching_write table condition (op.Delete place target old) = false

-- the operations that did not, and those that did
abbrev pub staying : ℕ → Option Condition → List RowOp → List RowOp
staying table condition done = filter (λ o. not (is_matching_write table condition o)) done

abbrev pub moving : ℕ → Option Condition → List RowOp → List RowOp
moving table condition done = filter (λ o. is_matching_write table condition o) done

-- a row with another value in a column
abbrev pub with_value : ℕ → Value → List Value → List Value
with_value column value row = slice_set row column value

-- the update of a version, and of a row of an own operation
abbrev pub updated : ℕ → ℕ → Value → Version → RowOp
updated table column value v = op.Update table (Base v.genid) v.row (with_value column value v.row)

abbrev pub rewritten : ℕ → Value → RowOp → RowOp
rewritten column value (op.Insert table row) = op.Insert table (with_value column value row)
rewritten column value (op.Update table target old row) = op.Update table target old (with_value column value row)
rewritten column value (op.Delete table target old) = op.Delete table target old

-- the delete of a version, and what a delete of the row of an own operation leaves
abbrev pub deleted : ℕ → Version → RowOp
deleted table v = op.Delete table (Base v.genid) v.row

abbrev pub undone : List RowOp → List RowOp
undone [] = []
undone (op.Insert table row ∷ ops) = undone ops
undone (op.Update table target old row ∷ ops) = op.Delete table target old ∷ undone ops
undone (op.Delete table target old ∷ ops) = op.Delete table target old ∷ undone ops

-- rows are told, and their number
abbrev pub rows_told : List (List Value) → List Reply
rows_told rows = map reply.Row rows ++ reply.Done (length rows) ∷ []

-- the rows that a transaction sees in a table, and meet a condition
abbrev pub rows_seen : List (List Version) → List RowOp → ℕ → Option Condition → List (List Value)
rows_seen versions done table condition =
    map (λ v. v.row) (chosen condition (left_by done table (of_table versions table))) ++ filter (meets condition) (written table done)

abbrev pub inserted : List RowOp → ℕ → List Value → Answered
inserted done table row = answered (reply.Changed 1 ∷ []) (done ++ op.Insert table row ∷ [])

abbrev pub selected : List (List Version) → List RowOp → ℕ → Option Condition → Answered
selected versions done table condition = reading (range_of table condition) (only_told done (rows_told (rows_seen versions done table condition)))

-- these versions and these own operations are changed, and what they become stands at the end
abbrev pub changed : List RowOp → List RowOp → List RowOp → ℕ → Answered
changed stay base own rows = answered (reply.Changed rows ∷ []) (stay ++ (base ++ own))

abbrev pub set : List (List Version) → List RowOp → ℕ → Option Condition → ℕ → Value → Answered
set versions done table condition column value =
    reading (range_of table condition)
    (changed (staying table condition done)
    (map (updated table column value) (chosen condition (left_by done table (of_table versions table))))
    (map (rewritten column value) (moving table condition done))
    (length (chosen condition (left_by done table (of_table versions table))) + length (moving table condition done)))

abbrev pub removed : List (List Version) → List RowOp → ℕ → Option Condition → Answered
removed versions done table condition =
    reading (range_of table condition)
    (changed (staying table condition done)
    (map (deleted table) (chosen condition (left_by done table (of_table versions table))))
    (undone (moving table condition done))
    (length (chosen condition (left_by done table (of_table versions table))) + length (moving table condition done)))

-- the condition that a row has an id
abbrev pub has_id : ℕ → Option Condition
has_id id = Some (record { column = 0; value = Int (pos id) })

abbrev pub refused : List RowOp → StatementError → Answered
refused done cause = only_told done (reply.Error cause ∷ [])

-- the answer of a statement; one that begins or ends a transaction does not fit inside one, and a text that is no
-- statement is told so
abbrev pub answer_to : List (List Version) → List RowOp → Option Statement → Answered
answer_to versions done None = refused done (error.Syntax 0)
answer_to versions done (Some Begin) = refused done error.State
answer_to versions done (Some Commit) = refused done error.State
answer_to versions done (Some Rollback) = refused done error.State
answer_to versions done (Some (Insert id v)) = inserted done 0 (Int (pos id) ∷ Int (pos v) ∷ [])
answer_to versions done (Some SelectAll) = selected versions done 0 None
answer_to versions done (Some (SelectWhere id)) = selected versions done 0 (has_id id)
answer_to versions done (Some (SetLevel level)) = refused done error.State
answer_to versions done (Some (SetWhere v id)) = set versions done 0 (has_id id) 1 (Int (pos v))
answer_to versions done (Some (DeleteWhere id)) = removed versions done 0 (has_id id)

-- what a statement is to transactions
abbrev pub kind_of : Option Statement → Kind
kind_of None = OtherText
kind_of (Some Begin) = BeginText
kind_of (Some Commit) = CommitText
kind_of (Some Rollback) = RollbackText
kind_of (Some (Insert id v)) = OtherText
kind_of (Some SelectAll) = OtherText
kind_of (Some (SelectWhere id)) = OtherText
kind_of (Some (SetLevel level)) = LevelText level
kind_of (Some (SetWhere v id)) = OtherText
kind_of (Some (DeleteWhere id)) = OtherText

abbrev pub small_language : Language
small_language = record {
  kind = λ text. kind_of (statement_of text);
  answer = λ tables versions done text. answer_to versions done (statement_of text);
}

-- what a report of a run is judged by whose history begins with it: the small language, the script, and no entry before
abbrev pub from_nothing : Script → Basis
from_nothing script = record {
  language = small_language;
  script = script;
  origin = nothing_before (script_tables script);
}

-- the same behind a log of so many entries, whose pages stand for these rows
abbrev pub from_log : Script → ℕ → Rows → Basis
from_log script position rows = record { language = small_language; script = script; origin = record { position = position; tables = script_tables script; rows = rows } }
