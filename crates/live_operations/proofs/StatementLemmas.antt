-- What a statement leaves: the operations that it finds, or the net operations of these and its writes.
use Rattle.std.proofs.Common.{◌≡◌, ℕ, ◌≤◌, List, [], ◌∷◌, ◌++◌, length, map, ltb, refl, Option, Some, None, Ok, Err}
use Rattle.std.specs.Prelude.{slice_get}
use Rattle.std.specs.List.{filter_map}
use Rattle.std.proofs.lemmas.Bool.{cond_both, ltb-false}
use Rattle.cdb_values.specs.declared.items.GenidItem.{GenidItem}
use Rattle.cdb_values.specs.declared.items.Interval.{Interval}
use Rattle.cdb_values.specs.declared.limits.TheConstants.{MOST_NET_OPERATIONS}
use Rattle.cdb_values.specs.declared.rows.RowOp.{RowOp}
use Rattle.cdb_values.specs.declared.rows.RowOp.TheVariants.{Insert}
use Rattle.cdb_values.specs.declared.rows.StatementError.{StatementError}
use Rattle.cdb_values.specs.declared.rows.StatementError.TheVariants as error
use Rattle.cdb_values.specs.declared.rows.Version.{Version}
use Rattle.cdb_values.specs.declared.tables.TableDef.{TableDef}
use Rattle.cdb_values.specs.declared.values.Value.{Value}
use Rattle.net_writes.specs.Net.{net_of}
use Rattle.query_laws.specs.Alone.{reads_of, sql_language}
use Rattle.cdb_values.specs.declared.replies.Reply.TheVariants as reply
use Rattle.sql_answer.specs.Answers.{Meaning, Outcome, Fails, Gives, told_only, net_given, given_unless, rows_met, updating, deleting, items_used, rows_given, finished, finish, found, answer}
use Rattle.sql_answer.specs.Combinations.{Seen, seen, rows_of, met}
use Rattle.sql_answer.specs.Language.{answered, sql_binder, meaning}
use Rattle.sql_answer.specs.Shapes.{shape}
use Rattle.sql_answer.specs.Writes.{set_row, rows_error}
use Rattle.sql_bind.specs.Bound.{Cond, BoundStatement, BeginIt, CommitIt, RollbackIt, SetIt, InsertInto, UpdateOf, DeleteFrom, SelectOf}

-- the rows of a table that a write with this condition meets
abbrev pub met_in : List (List Version) → List RowOp → ℕ → Option Cond → List Seen
met_in versions done place condition = rows_met (met (seen versions done) (place ∷ []) condition)

-- the writes of a statement behind these operations
abbrev pub writes_of : List (List Version) → List RowOp → BoundStatement → List RowOp
writes_of versions done BeginIt = []
writes_of versions done CommitIt = []
writes_of versions done RollbackIt = []
writes_of versions done (SetIt level) = []
writes_of versions done (InsertInto place rows) = map (Insert place) rows
writes_of versions done (UpdateOf place assigns condition) = filter_map (updating place assigns) (met_in versions done place condition)
writes_of versions done (DeleteFrom place condition) = map (deleting place) (met_in versions done place condition)
writes_of versions done (SelectOf query) = []

module _ (Q : List RowOp → Type 0) where
  abbrev Leaves : List RowOp → Outcome → Type 0
  Leaves ops outcome = Q (answered [] ops outcome).ops

  -- whatever was read for it
  leaves_too : (ranges : List Interval) (ops : List RowOp) (outcome : Outcome) → Leaves ops outcome → Q (answered ranges ops outcome).ops
  leaves_too ranges ops (Fails cause) is = is
  leaves_too ranges ops (Gives told after) is = is

  -- net operations within the limit have it
  abbrev NetHas : List RowOp → List RowOp → Type 0
  NetHas ops writes = length (net_of (ops ++ writes)) ≤ MOST_NET_OPERATIONS → Q (net_of (ops ++ writes))

  net_leaves : (ops writes : List RowOp) → Q ops → NetHas ops writes → Leaves ops (net_given ops writes)
  net_leaves ops writes has net =
      cond_both (ltb MOST_NET_OPERATIONS (length (net_of (ops ++ writes)))) (Fails error.TooLong) (Gives (told_only (reply.Changed (length writes))) (net_of (ops ++ writes)))
      (Leaves ops) (λ past. has) (λ fits. net (ltb-false MOST_NET_OPERATIONS (length (net_of (ops ++ writes))) fits))

  unless_leaves : (cause : Option StatementError) (ops writes : List RowOp) → Q ops → NetHas ops writes → Leaves ops (given_unless cause ops writes)
  unless_leaves (Some cause) ops writes has net = has
  unless_leaves None ops writes has net = net_leaves ops writes has net

  rows_leave : (uses : List GenidItem) (ops : List RowOp) (told : Option (List (List Value))) → Q ops → Leaves ops (rows_given uses ops told)
  rows_leave uses ops None has = has
  rows_leave uses ops (Some told) has = has

  statement_leaves : (tables : List TableDef) (versions : List (List Version)) (done : List RowOp) (s : BoundStatement) → Q done → NetHas done (writes_of versions done s)
      → Leaves done (finished tables s done (found versions done (Ok s)))
  statement_leaves tables versions done BeginIt has net = has
  statement_leaves tables versions done CommitIt has net = has
  statement_leaves tables versions done RollbackIt has net = has
  statement_leaves tables versions done (SetIt level) has net = has
  statement_leaves tables versions done (InsertInto place rows) has net =
      unless_leaves (rows_error (slice_get tables place) (map (λ row. Some row) rows)) done (map (Insert place) rows) has net
  statement_leaves tables versions done (UpdateOf place assigns condition) has net =
      unless_leaves (rows_error (slice_get tables place) (map (λ s. set_row assigns s.row) (met_in versions done place condition))) done
      (filter_map (updating place assigns) (met_in versions done place condition)) has net
  statement_leaves tables versions done (DeleteFrom place condition) has net = net_leaves done (map (deleting place) (met_in versions done place condition)) has net
  statement_leaves tables versions done (SelectOf query) has net =
      rows_leave (items_used query (found versions done (Ok (SelectOf query)))) done (shape query (map rows_of (found versions done (Ok (SelectOf query))))) has

  meaning_leaves : (tables : List TableDef) (versions : List (List Version)) (done : List RowOp) (m : Meaning) → Q done
      → ((s : BoundStatement) → m ≡ Ok s → NetHas done (writes_of versions done s)) → Leaves done (finish tables m done (found versions done m))
  unfolding finish
  meaning_leaves tables versions done (Ok s) has net = statement_leaves tables versions done s has (net s refl)
  meaning_leaves tables versions done (Err cause) has net = has

  -- what holds of the operations that a text finds, and of the net operations with the writes of what it means where
  -- they are within the limit, holds of the operations that it leaves
  pub text_leaves : (tables : List TableDef) (versions : List (List Version)) (done : List RowOp) (text : List ℕ) → Q done
      → ((s : BoundStatement) → meaning sql_binder tables text ≡ Ok s → NetHas done (writes_of versions done s)) → Q (sql_language.answer tables versions done text).ops
  text_leaves tables versions done text has net =
      leaves_too (reads_of tables versions done (meaning sql_binder tables text)) done (answer tables versions done (meaning sql_binder tables text))
      (meaning_leaves tables versions done (meaning sql_binder tables text) has net)
