-- Pages at the last position of a log are those of the log; and the intervals that a text read are told as the code has them.
use Rattle.std.proofs.Common.{◌≡◌, ℕ, List, [], ◌∷◌, ◌++◌, length, take, ap, ◌∙◌, map, refl, subst, sym}
use Rattle.std.proofs.lemmas.List.{map-append}
use Rattle.cdb_values.specs.Rows.{Rows}
use Rattle.cdb_values.specs.declared.items.Interval.{Interval}
use Rattle.cdb_values.specs.declared.rows.RowOp.{RowOp}
use Rattle.cdb_values.specs.declared.rows.Version.{Version}
use Rattle.cdb_values.specs.declared.tables.TableDef.{TableDef}
use Rattle.osql_session.proofs.CourseLemmas.{intervals_back}
use Rattle.phys_log.specs.Logs.{page_at, pages_of}
use Rattle.phys_log.specs.declared.entries.Entry.{Entry}
use Rattle.plan_run.specs.PlanWalks.{intervals_in}
use Rattle.query_laws.specs.Alone.{interval_out}
use Rattle.query_laws.specs.Intervals as laws
use Rattle.query_laws.specs.Runs.{ranges_of, used_if}
use Rattle.sql_answer.specs.Answers.{Outcome, Fails, Gives, Meaning, answer}
use Rattle.sql_answer.specs.Language.{answered}
use Rattle.sql_run.specs.Texts.{answer_to}
use Rattle.table_store.specs.Stored.{Stands}

take_all : (log : List Entry) → take (length log) log ≡ log
take_all [] = refl
take_all (e ∷ log) = ap (λ (es : List Entry). e ∷ es) (take_all log)

pub stands_at_end : (tables : List TableDef) (log entries : List Entry) (begin : ℕ) (rows : Rows) → begin ≡ length log → log ≡ entries → Stands (page_at log begin) tables rows → Stands (pages_of entries) tables rows
stands_at_end tables log entries begin rows at same stands =
    subst (λ (es : List Entry). Stands (pages_of es) tables rows) (ap (λ n. take n log) at ∙ take_all log ∙ same) stands
