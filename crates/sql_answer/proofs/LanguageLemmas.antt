-- SQL is a language of reports: each text is answered, by replies that end at the first one that is no
-- row, and of which none begins or ends a transaction.
use Rattle.std.proofs.Common.{◌≡◌, ℕ, List, [], ◌∷◌, ◌++◌, length, map, refl, ltb, true, false, Option, Some, None, Ok, Err}
use Rattle.std.specs.List.{filter_map, slice_get}
use Rattle.std.proofs.lemmas.Bool.{cond_both}
use Rattle.cdb_values.specs.declared.limits.TheConstants.{MOST_NET_OPERATIONS}
use Rattle.cdb_values.specs.declared.items.GenidItem.{GenidItem}
use Rattle.cdb_values.specs.declared.items.Interval.{Interval}
use Rattle.cdb_values.specs.declared.rows.RowOp.{RowOp}
use Rattle.cdb_values.specs.declared.rows.RowOp.TheVariants as op
use Rattle.cdb_values.specs.declared.rows.StatementError.{StatementError}
use Rattle.cdb_values.specs.declared.rows.StatementError.TheVariants as error
use Rattle.cdb_values.specs.declared.rows.Version.{Version}
use Rattle.cdb_values.specs.declared.tables.TableDef.{TableDef}
use Rattle.cdb_values.specs.declared.values.Value.{Value}
use Rattle.net_writes.specs.Net.{net_of}
use Rattle.session_language.specs.Answers.{Answers, ArePlain}
use Rattle.session_language.specs.Replies.{are_up_to, is_last_of}
use Rattle.session_language.proofs.UpToLaws.{up_to_rows}
use Rattle.cdb_values.specs.declared.replies.Reply.{Reply}
use Rattle.cdb_values.specs.declared.replies.Reply.TheVariants as reply
use Rattle.sql_bind.specs.Bound.{BoundStatement, BeginIt, CommitIt, RollbackIt, SetIt, InsertInto, UpdateOf, DeleteFrom, SelectOf}
use Rattle.sql_answer.specs.Answers.{Meaning, Outcome, Fails, Gives, told_only, net_given, given_unless, rows_met, updating, deleting, items_used, rows_given, finished, finish, found, answer}
use Rattle.sql_answer.specs.Combinations.{Seen, rows_of}
use Rattle.sql_answer.specs.Language.{Binder, IntervalReader, answered, language_of, meaning}
use Rattle.sql_answer.specs.Shapes.{shape}
use Rattle.sql_answer.specs.Writes.{set_row, rows_error}

-- replies of one statement: rows, and one that is none
abbrev IsTold : List Reply → Type 0
IsTold rs = ArePlain rs × (are_up_to (is_last_of false) rs ≡ true)

abbrev IsAnswer : List RowOp → Outcome → Type 0
IsAnswer ops outcome = IsTold (answered [] ops outcome).replies

-- whatever was read for it
read_too : (ranges : List Interval) (ops : List RowOp) (outcome : Outcome) → IsAnswer ops outcome → IsTold (answered ranges ops outcome).replies
read_too ranges ops (Fails cause) is = is
read_too ranges ops (Gives told after) is = is

plain_rows : (rows : List (List Value)) (last : List Reply) → ArePlain last → ArePlain (map reply.Row rows ++ last)
plain_rows [] last is = is
plain_rows (row ∷ rows) last is = (tt, plain_rows rows last is)

net_told : (ops writes : List RowOp) → IsAnswer ops (net_given ops writes)
net_told ops writes =
    cond_both (ltb MOST_NET_OPERATIONS (length (net_of (ops ++ writes)))) (Fails error.TooLong) (Gives (told_only (reply.Changed (length writes))) (net_of (ops ++ writes)))
    (IsAnswer ops) (λ past. ((tt, tt), refl)) (λ fits. ((tt, tt), refl))

writes_told : (cause : Option StatementError) (ops writes : List RowOp) → IsAnswer ops (given_unless cause ops writes)
writes_told (Some cause) ops writes = ((tt, tt), refl)
writes_told None ops writes = net_told ops writes

rows_told : (uses : List GenidItem) (ops : List RowOp) (rows : Option (List (List Value))) → IsAnswer ops (rows_given uses ops rows)
rows_told uses ops None = ((tt, tt), refl)
rows_told uses ops (Some rows) =
    (plain_rows rows (reply.Done (length rows) ∷ []) (tt, tt), up_to_rows rows (reply.Done (length rows)) refl)

finished_told : (tables : List TableDef) (s : BoundStatement) (ops : List RowOp) (combinations : List (List Seen)) → IsAnswer ops (finished tables s ops combinations)
finished_told tables BeginIt ops combinations = ((tt, tt), refl)
finished_told tables CommitIt ops combinations = ((tt, tt), refl)
finished_told tables RollbackIt ops combinations = ((tt, tt), refl)
finished_told tables (SetIt level) ops combinations = ((tt, tt), refl)
finished_told tables (InsertInto table rows) ops combinations = writes_told (rows_error (slice_get tables table) (map (λ row. Some row) rows)) ops (map (op.Insert table) rows)
finished_told tables (UpdateOf table assigns filter) ops combinations =
    writes_told (rows_error (slice_get tables table) (map (λ s. set_row assigns s.row) (rows_met combinations))) ops (filter_map (updating table assigns) (rows_met combinations))
finished_told tables (DeleteFrom table filter) ops combinations = net_told ops (map (deleting table) (rows_met combinations))
finished_told tables (SelectOf query) ops combinations = rows_told (items_used query combinations) ops (shape query (map rows_of combinations))

finish_told : (tables : List TableDef) (s : Meaning) (ops : List RowOp) (combinations : List (List Seen)) → IsAnswer ops (finish tables s ops combinations)
unfolding finish
finish_told tables (Ok s) ops combinations = finished_told tables s ops combinations
finish_told tables (Err cause) ops combinations = ((tt, tt), refl)

text_told : (bind : Binder) (reads : IntervalReader) (tables : List TableDef) (versions : List (List Version)) (ops : List RowOp) (text : List ℕ) → IsTold ((language_of bind reads).answer tables versions ops text).replies
text_told bind reads tables versions ops text =
    read_too (reads tables versions ops (meaning bind tables text)) ops (answer tables versions ops (meaning bind tables text))
    (finish_told tables (meaning bind tables text) ops (found versions ops (meaning bind tables text)))

pub sql_answers : (bind : Binder) (reads : IntervalReader) → Answers (language_of bind reads)
sql_answers bind reads = record {
  plain = λ tables versions ops text. (text_told bind reads tables versions ops text).0;
  closed = λ tables versions ops text. (text_told bind reads tables versions ops text).1;
}
