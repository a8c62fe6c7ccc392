-- The answer of a statement, over the versions of its transaction's begin position and the
-- transaction's own operations so far.
--
-- A statement is what it means in the schema, or the error that it has before any row is looked at. It
-- is evaluated on the combinations of the rows of its tables for which its WHERE is true: what it is
-- answered is made of these combinations and of the operations so far, and of nothing else that the
-- rows are. An INSERT, a statement with an error, and one that has no place in a transaction have no
-- tables, and so one combination without rows.
--
-- Errors that can depend on rows are overflow, notnull and toolong: a statement with one of them fails.
-- It adds no operation, and neither does a statement with any other error.
use Rattle.std.specs.Prelude.{ℕ, ◌++◌, ◌∷◌, [], List, if◌then◌else◌, nat_lt, map, length, slice_get, Option, Some, None, option_map, Result, Ok, Err}
use Rattle.std.specs.List.{flat_map, filter_map}
use Rattle.cdb_values.specs.Changes.{genid_item}
use Rattle.cdb_values.specs.declared.items.GenidItem.{GenidItem}
use Rattle.cdb_values.specs.declared.limits.TheConstants.{MOST_NET_OPERATIONS}
use Rattle.cdb_values.specs.declared.rows.RowOp.{RowOp}
use Rattle.cdb_values.specs.declared.rows.RowOp.TheVariants as op
use Rattle.cdb_values.specs.declared.rows.RowRef.{RowRef}
use Rattle.cdb_values.specs.declared.rows.RowRef.TheVariants.{Base, Own}
use Rattle.cdb_values.specs.declared.rows.StatementError.{StatementError}
use Rattle.cdb_values.specs.declared.rows.StatementError.TheVariants as error
use Rattle.cdb_values.specs.declared.rows.Version.{Version}
use Rattle.cdb_values.specs.declared.tables.TableDef.{TableDef}
use Rattle.cdb_values.specs.declared.values.Value.{Value}
use Rattle.net_writes.specs.Net.{net_of}
use Rattle.cdb_values.specs.declared.replies.Reply.{Reply}
use Rattle.cdb_values.specs.declared.replies.Reply.TheVariants as reply
use Rattle.sql_bind.specs.Bound.{Cond, BoundQuery, BoundStatement, BeginIt, CommitIt, RollbackIt, SetIt, InsertInto, UpdateOf, DeleteFrom, SelectOf}
use Rattle.sql_bind.specs.declared.types.BoundAssign.{BoundAssign}
use Rattle.sql_answer.specs.Combinations.{Seen, seen, rows_of, met}
use Rattle.sql_answer.specs.Shapes.{shape}
use Rattle.sql_answer.specs.Writes.{set_row, rows_error}

-- what a session is told, and the versions that it uses besides those that its operations take away
pub record Told : Type 0 where
  pub replies : List Reply
  pub uses : List GenidItem

-- a statement fails by the rows that it met, or gives what is told, with the operations after it
pub data Outcome : Type 0 where
  Fails : StatementError → Outcome
  Gives : Told → List RowOp → Outcome

-- what a statement means, or the error that it has before any row is looked at
abbrev pub Meaning : Type 0
Meaning = Result BoundStatement StatementError

-- the tables of which a statement is evaluated on combinations, by their places in the schema
abbrev pub tables_of : BoundStatement → List ℕ
tables_of BeginIt = []
tables_of CommitIt = []
tables_of RollbackIt = []
tables_of (SetIt level) = []
tables_of (InsertInto table rows) = []
tables_of (UpdateOf table assigns filter) = table ∷ []
tables_of (DeleteFrom table filter) = table ∷ []
tables_of (SelectOf query) = query.tables

-- the WHERE that these combinations meet
abbrev pub filter_of : BoundStatement → Option Cond
filter_of BeginIt = None
filter_of CommitIt = None
filter_of RollbackIt = None
filter_of (SetIt level) = None
filter_of (InsertInto table rows) = None
filter_of (UpdateOf table assigns filter) = filter
filter_of (DeleteFrom table filter) = filter
filter_of (SelectOf query) = query.filter

-- the same of a statement that may have an error
abbrev pub tables_read : Meaning → List ℕ
tables_read (Ok statement) = tables_of statement
tables_read (Err cause) = []

abbrev pub filter_met : Meaning → Option Cond
filter_met (Ok statement) = filter_of statement
filter_met (Err cause) = None

-- a reply alone, with nothing used
abbrev pub told_only : Reply → Told
told_only line = record { replies = line ∷ []; uses = [] }

-- an answer by an error that no row is looked at for
abbrev pub refused : StatementError → List RowOp → Outcome
refused cause ops = Gives (told_only (reply.Error cause)) ops

-- the answer of writes, where no row has an error: how many there are, with the net operations after them
abbrev pub net_given : List RowOp → List RowOp → Outcome
net_given ops writes =
    if nat_lt MOST_NET_OPERATIONS (length (net_of (ops ++ writes))) then Fails error.TooLong
    else Gives (told_only (reply.Changed (length writes))) (net_of (ops ++ writes))

-- the answer of writes: the first error of a row comes before the limit of operations
abbrev pub given_unless : Option StatementError → List RowOp → List RowOp → Outcome
given_unless (Some cause) ops writes = Fails cause
given_unless None ops writes = net_given ops writes

-- the rows of combinations of one table
abbrev pub rows_met : List (List Seen) → List Seen
rows_met combinations = flat_map (λ combination. combination) combinations

-- the write that updates a row, where SET gives one
abbrev pub updating : ℕ → List BoundAssign → Seen → Option RowOp
updating table assigns s = option_map (op.Update table s.source s.row) (set_row assigns s.row)

abbrev pub deleting : ℕ → Seen → RowOp
deleting table s = op.Delete table s.source s.row

abbrev pub inserted : List TableDef → ℕ → List (List Value) → List RowOp → Outcome
inserted tables table rows ops = given_unless (rows_error (slice_get tables table) (map (λ row. Some row) rows)) ops (map (op.Insert table) rows)

abbrev pub updated : List TableDef → ℕ → List BoundAssign → List RowOp → List Seen → Outcome
updated tables table assigns ops rows =
    given_unless (rows_error (slice_get tables table) (map (λ s. set_row assigns s.row) rows)) ops (filter_map (updating table assigns) rows)

abbrev pub deleted : ℕ → List RowOp → List Seen → Outcome
deleted table ops rows = net_given ops (map (deleting table) rows)

-- the version that a row is of, if it is of one
abbrev pub base_item : ℕ → RowRef → List GenidItem
base_item table (Base genid) = genid_item table genid ∷ []
base_item table (Own write) = []

-- the versions of a combination of these tables, in their order
abbrev pub combination_items : List ℕ → List Seen → List GenidItem
combination_items [] combination = []
combination_items (table ∷ tables) [] = []
combination_items (table ∷ tables) (s ∷ combination) = base_item table s.source ++ combination_items tables combination

-- the versions that a query uses: SELECTV those of all combinations, before grouping and LIMIT
abbrev pub items_used : BoundQuery → List (List Seen) → List GenidItem
items_used query combinations = if query.selectv then flat_map (combination_items query.tables) combinations else []

-- the replies of rows: each of them, and how many there are
abbrev pub row_replies : List (List Value) → List Reply
row_replies rows = map (λ row. reply.Row row) rows ++ reply.Done (length rows) ∷ []

abbrev pub rows_given : List GenidItem → List RowOp → Option (List (List Value)) → Outcome
rows_given uses ops None = Fails error.Overflow
rows_given uses ops (Some rows) = Gives (record { replies = row_replies rows; uses = uses }) ops

abbrev pub selected : BoundQuery → List RowOp → List (List Seen) → Outcome
selected query ops combinations = rows_given (items_used query combinations) ops (shape query (map rows_of combinations))

-- what a statement makes of the operations so far and the combinations that it finds; one that begins,
-- ends or sets a transaction does not fit inside one
abbrev pub finished : List TableDef → BoundStatement → List RowOp → List (List Seen) → Outcome
finished tables BeginIt ops combinations = refused error.State ops
finished tables CommitIt ops combinations = refused error.State ops
finished tables RollbackIt ops combinations = refused error.State ops
finished tables (SetIt level) ops combinations = refused error.State ops
finished tables (InsertInto table rows) ops combinations = inserted tables table rows ops
finished tables (UpdateOf table assigns filter) ops combinations = updated tables table assigns ops (rows_met combinations)
finished tables (DeleteFrom table filter) ops combinations = deleted table ops (rows_met combinations)
finished tables (SelectOf query) ops combinations = selected query ops combinations

unfoldable pub finish : List TableDef → Meaning → List RowOp → List (List Seen) → Outcome
finish tables (Ok statement) ops combinations = finished tables statement ops combinations
finish tables (Err cause) ops combinations = refused cause ops

-- the combinations that a statement finds
abbrev pub found : List (List Version) → List RowOp → Meaning → List (List Seen)
found versions ops statement = met (seen versions ops) (tables_read statement) (filter_met statement)

-- the answer of a statement
abbrev pub answer : List TableDef → List (List Version) → List RowOp → Meaning → Outcome
answer tables versions ops statement = finish tables statement ops (found versions ops statement)

-- the operations after a statement
abbrev pub ops_after : List RowOp → Outcome → List RowOp
ops_after ops (Fails cause) = ops
ops_after ops (Gives told after) = after
