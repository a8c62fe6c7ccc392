-- What a session's statement is answered is what a node answers.
use Rattle.std.proofs.Common.{◌≡◌, List, ◌++◌, ap, ◌∙◌, map, refl, subst, sym, Result, Ok, Err, IfOk, OnOk}
use Rattle.std.proofs.lemmas.List.{map-append}
use Rattle.cdb_values.specs.declared.items.Interval.{Interval}
use Rattle.cdb_values.specs.declared.rows.RowOp.{RowOp}
use Rattle.cdb_values.specs.declared.rows.Version.{Version}
use Rattle.cdb_values.specs.declared.tables.TableDef.{TableDef}
use Rattle.osql_session.proofs.CourseLemmas.{intervals_back}
use Rattle.osql_session.specs.Sessions.{Session}
use Rattle.plan_run.specs.PlanWalks.{intervals_in}
use Rattle.query_laws.specs.Alone.{interval_out}
use Rattle.query_laws.specs.Intervals as laws
use Rattle.query_laws.specs.Runs.{ranges_of, used_if}
use Rattle.cdb_values.specs.declared.replies.Reply.{Reply}
use Rattle.sql_answer.specs.Answers.{Outcome, Fails, Gives, Meaning, answer}
use Rattle.sql_answer.specs.Language.{answered}
use Rattle.sql_run.specs.Texts.{answer_to}
use Rattle.session_turns.specs.Answers.{IsTextAnswered}
use Rattle.session_turns.specs.Step.{World}

-- what a text is answered to read, by the intervals that it uses
told_so : (read : List laws.Interval) (done : List RowOp) (o : Outcome) → map interval_out (used_if o read) ≡ (answered (map interval_out read) done o).ranges
told_so read done (Fails cause) = refl
told_so read done (Gives told after) = refl

-- a session has read what a text reads, behind what it read before
ranges_told : (tables : List TableDef) (versions : List (List Version)) (done : List RowOp) (meant : Meaning) (old new : List Interval) →
    intervals_in new ≡ intervals_in old ++ used_if (answer tables versions done meant) (ranges_of tables versions done meant) → new ≡ old ++ (answer_to tables versions done meant).ranges
ranges_told tables versions done meant old new is =
    intervals_back new ∙ ap (map interval_out) is ∙ map-append interval_out (intervals_in old) used
    ∙ ap (λ (front : List Interval). front ++ map interval_out used) (sym (intervals_back old))
    ∙ ap (λ (rest : List Interval). old ++ rest) (told_so (ranges_of tables versions done meant) done (answer tables versions done meant))
  where
    used : List laws.Interval
    used = used_if (answer tables versions done meant) (ranges_of tables versions done meant)

-- a statement of a session, over the rows that a history has at its begin position
pub answered_over : {E : Type 0} (r : Result (List Reply) E) (tables : List TableDef) (versions : List (List Version)) (w : World) (meant : Meaning) (s s' : Session) → w.tables ≡ tables → (w.seen.at s.begin).tables ≡ versions →
    IfOk r (λ lines. lines ≡ (answer_to tables versions s.ops meant).replies) → OnOk r (s'.ops ≡ (answer_to tables versions s.ops meant).ops) →
    OnOk r (s'.genids ≡ s.genids ++ (answer_to tables versions s.ops meant).uses) →
    OnOk r (intervals_in s'.ranges ≡ intervals_in s.ranges ++ used_if (answer tables versions s.ops meant) (ranges_of tables versions s.ops meant)) →
    s'.id ≡ s.id → s'.begin ≡ s.begin → s'.level ≡ s.level → IfOk r (λ lines. IsTextAnswered w s meant lines s')
answered_over (Err e) tables versions w meant s s' same rows replies ops genids ranges id begin level = tt
answered_over (Ok lines) tables versions w meant s s' same rows replies ops genids ranges id begin level =
    subst (λ (ts : List TableDef). over ts versions) same (subst (λ (vs : List (List Version)). over w.tables vs) rows here) replies ops genids ranges
  where
    over : List TableDef → List (List Version) → Type 0
    over ts vs = lines ≡ (answer_to ts vs s.ops meant).replies → s'.ops ≡ (answer_to ts vs s.ops meant).ops → s'.genids ≡ s.genids ++ (answer_to ts vs s.ops meant).uses →
        intervals_in s'.ranges ≡ intervals_in s.ranges ++ used_if (answer ts vs s.ops meant) (ranges_of ts vs s.ops meant) → IsTextAnswered w s meant lines s'

    here : over w.tables (w.seen.at s.begin).tables
    here told leaves takes reads = record {
      replies = told;
      ops = leaves;
      genids = takes;
      ranges = ranges_told w.tables (w.seen.at s.begin).tables s.ops meant s.ranges s'.ranges reads;
      id = id;
      begin = begin;
      level = level;
    }
