-- The small language answers each text, by replies that end at the first one that is no row and of which none begins or
-- ends a transaction.
use Rattle.std.proofs.Common.{◌≡◌, List, [], ◌∷◌, ◌++◌, length, map, refl, Option, Some, None, true, false}
use Rattle.cdb_values.specs.declared.rows.RowOp.{RowOp}
use Rattle.cdb_values.specs.declared.rows.Version.{Version}
use Rattle.cdb_values.specs.declared.values.Value.{Value}
use Rattle.session_language.specs.Answers.{Answers, ArePlain}
use Rattle.session_language.specs.Replies.{are_up_to, is_last_of}
use Rattle.cdb_values.specs.declared.replies.Reply.{Reply}
use Rattle.cdb_values.specs.declared.replies.Reply.TheVariants as reply
use Rattle.session_language.proofs.UpToLaws.{up_to_rows}
use Rattle.report_worked.specs.Small.{Statement, Begin, Commit, Rollback, Insert, SelectAll, SelectWhere, SetLevel, SetWhere, DeleteWhere, statement_of, answer_to, rows_seen, has_id, small_language}

plain_rows : (rows : List (List Value)) (last : List Reply) → ArePlain last → ArePlain (map reply.Row rows ++ last)
plain_rows [] last is = is
plain_rows (row ∷ rows) last is = (tt, plain_rows rows last is)

plain_answer_to : (versions : List (List Version)) (done : List RowOp) (s : Option Statement) → ArePlain (answer_to versions done s).replies
plain_answer_to versions done None = (tt, tt)
plain_answer_to versions done (Some Begin) = (tt, tt)
plain_answer_to versions done (Some Commit) = (tt, tt)
plain_answer_to versions done (Some Rollback) = (tt, tt)
plain_answer_to versions done (Some (Insert id v)) = (tt, tt)
plain_answer_to versions done (Some SelectAll) = plain_rows (rows_seen versions done 0 None) (reply.Done (length (rows_seen versions done 0 None)) ∷ []) (tt, tt)
plain_answer_to versions done (Some (SelectWhere id)) = plain_rows (rows_seen versions done 0 (has_id id)) (reply.Done (length (rows_seen versions done 0 (has_id id))) ∷ []) (tt, tt)
plain_answer_to versions done (Some (SetLevel level)) = (tt, tt)
plain_answer_to versions done (Some (SetWhere v id)) = (tt, tt)
plain_answer_to versions done (Some (DeleteWhere id)) = (tt, tt)

closed_answer_to : (versions : List (List Version)) (done : List RowOp) (s : Option Statement) → are_up_to (is_last_of false) (answer_to versions done s).replies ≡ true
closed_answer_to versions done None = refl
closed_answer_to versions done (Some Begin) = refl
closed_answer_to versions done (Some Commit) = refl
closed_answer_to versions done (Some Rollback) = refl
closed_answer_to versions done (Some (Insert id v)) = refl
closed_answer_to versions done (Some SelectAll) = up_to_rows (rows_seen versions done 0 None) (reply.Done (length (rows_seen versions done 0 None))) refl
closed_answer_to versions done (Some (SelectWhere id)) = up_to_rows (rows_seen versions done 0 (has_id id)) (reply.Done (length (rows_seen versions done 0 (has_id id)))) refl
closed_answer_to versions done (Some (SetLevel level)) = refl
closed_answer_to versions done (Some (SetWhere v id)) = refl
closed_answer_to versions done (Some (DeleteWhere id)) = refl

pub statements_answer : Answers small_language
statements_answer = record {
  plain = λ tables versions done text. plain_answer_to versions done (statement_of text);
  closed = λ tables versions done text. closed_answer_to versions done (statement_of text);
}
