-- A session stands where a run of its statements does.
use Rattle.std.proofs.Common.{◌≡◌, ℕ, List, [], ◌∷◌, ◌++◌, refl, sym, ◌∙◌, ap, subst, map, append_assoc, append-nil}
use Rattle.std.specs.Prelude.{Result, Ok, Err, IfOk, OnOk}
use Rattle.std.specs.List.{flat_map}
use Rattle.cdb_values.specs.declared.items.Edge.{Edge}
use Rattle.cdb_values.specs.declared.items.Edge.TheVariants.{Free, AtLeast, Above, AtMost, Below}
use Rattle.cdb_values.specs.declared.items.Interval as declared
use Rattle.cdb_values.specs.declared.rows.Level.{Level}
use Rattle.cdb_values.specs.declared.rows.RowOp.{RowOp}
use Rattle.cdb_values.specs.declared.rows.Version.{Version}
use Rattle.cdb_values.specs.declared.tables.TableDef.{TableDef}
use Rattle.phys_log.specs.declared.entries.CommitId.{CommitId}
use Rattle.plan_run.specs.PlanWalks.{intervals_in}
use Rattle.query_laws.specs.Alone.{replies_of, uses_of, reads_of, edge_out, interval_out, run_answered, sql_language}
use Rattle.query_laws.specs.Intervals.{Interval}
use Rattle.query_laws.specs.Runs.{ranges_of, used_if, Run, run_from}
use Rattle.query_laws.proofs.AloneLemmas.{after_is, alone_is_run}
use Rattle.query_plan.specs.Views.{edge_in, interval_in}
use Rattle.session_language.specs.Language.{alone_from}
use Rattle.cdb_values.specs.declared.replies.Reply.{Reply}
use Rattle.sql_answer.specs.Answers.{Outcome, Fails, Gives, Meaning, answer, ops_after}
use Rattle.sql_answer.specs.Language.{meaning, sql_binder, answered}
use Rattle.sql_run.specs.Texts.{answer_to}
use Rattle.osql_session.specs.Courses.{IsAfter, IsAlone, meanings_of}
use Rattle.osql_session.specs.Sessions.{Session, new_session}

pub new_is_after : (tables : List TableDef) (versions : List (List Version)) (id : CommitId) (begin : ℕ) (level : Level) →
    IsAfter tables versions [] [] (new_session id begin level)
new_is_after tables versions id begin level = record { replies = refl; ops = refl; genids = refl; ranges = refl }

-- an interval is told as the code has it
edge_back : (e : Edge) → e ≡ edge_out (edge_in e)
edge_back Free = refl
edge_back (AtLeast value) = refl
edge_back (Above value) = refl
edge_back (AtMost value) = refl
edge_back (Below value) = refl

interval_back : (i : declared.Interval) → i ≡ interval_out (interval_in i)
interval_back i = let low = edge_back i.low in let high = edge_back i.high in
    (λ j. record { table = i.table; key = i.key; equal = i.equal; low = low j; high = high j; empty = i.empty })

pub intervals_back : (intervals : List declared.Interval) → intervals ≡ map interval_out (intervals_in intervals)
intervals_back [] = refl
intervals_back (i ∷ intervals) =
    ap (λ (first : declared.Interval). first ∷ intervals) (interval_back i) ∙ ap (λ (l : List declared.Interval). interval_out (interval_in i) ∷ l) (intervals_back intervals)

pub after_is_alone : (tables : List TableDef) (versions : List (List Version)) (texts : List (List ℕ)) (told : List Reply) (s : Session) →
    IsAfter tables versions (meanings_of tables texts) told s → IsAlone tables versions texts told s
after_is_alone tables versions texts told s after =
    let same : run_answered (run_from tables versions [] (meanings_of tables texts)) ≡ alone_from sql_language tables versions [] texts =
    sym (alone_is_run sql_binder tables versions [] texts) in
    record {
      replies = after.replies ∙ ap (λ a. a.replies) same;
      ops = after.ops ∙ ap (λ a. a.ops) same;
      genids = after.genids ∙ ap (λ a. a.uses) same;
      ranges = intervals_back s.ranges ∙ ap (map interval_out) after.ranges ∙ ap (λ a. a.ranges) same;
    }

-- a run with a statement more
ops_more : (tables : List TableDef) (versions : List (List Version)) (ops : List RowOp) (ss : List Meaning) (m : Meaning) →
    (run_from tables versions ops (ss ++ m ∷ [])).ops
    ≡ ops_after (run_from tables versions ops ss).ops (answer tables versions (run_from tables versions ops ss).ops m)
ops_more tables versions ops [] m = refl
ops_more tables versions ops (s ∷ ss) m = ops_more tables versions (ops_after ops (answer tables versions ops s)) ss m

outcomes_more : (tables : List TableDef) (versions : List (List Version)) (ops : List RowOp) (ss : List Meaning) (m : Meaning) →
    (run_from tables versions ops (ss ++ m ∷ [])).outcomes
    ≡ (run_from tables versions ops ss).outcomes ++ answer tables versions (run_from tables versions ops ss).ops m ∷ []
outcomes_more tables versions ops [] m = refl
outcomes_more tables versions ops (s ∷ ss) m =
    ap (λ l. answer tables versions ops s ∷ l) (outcomes_more tables versions (ops_after ops (answer tables versions ops s)) ss m)

ranges_more : (tables : List TableDef) (versions : List (List Version)) (ops : List RowOp) (ss : List Meaning) (m : Meaning) →
    (run_from tables versions ops (ss ++ m ∷ [])).ranges
    ≡ (run_from tables versions ops ss).ranges
    ++ used_if (answer tables versions (run_from tables versions ops ss).ops m) (ranges_of tables versions (run_from tables versions ops ss).ops m)
ranges_more tables versions ops [] m =
    append-nil (used_if (answer tables versions ops m) (ranges_of tables versions ops m))
ranges_more tables versions ops (s ∷ ss) m =
    let o : Outcome = answer tables versions ops s in
    let used : List Interval = used_if o (ranges_of tables versions ops s) in
    let after : List RowOp = ops_after ops o in
    ap (λ l. used ++ l) (ranges_more tables versions after ss m)
    ∙ sym (append_assoc used (run_from tables versions after ss).ranges
    (used_if (answer tables versions (run_from tables versions after ss).ops m) (ranges_of tables versions (run_from tables versions after ss).ops m)))

replies_more : (os : List Outcome) (o : Outcome) → flat_map replies_of (os ++ o ∷ []) ≡ flat_map replies_of os ++ replies_of o
replies_more [] o = append-nil (replies_of o)
replies_more (p ∷ os) o =
    ap (λ l. replies_of p ++ l) (replies_more os o) ∙ sym (append_assoc (replies_of p) (flat_map replies_of os) (replies_of o))

uses_more : (os : List Outcome) (o : Outcome) → flat_map uses_of (os ++ o ∷ []) ≡ flat_map uses_of os ++ uses_of o
uses_more [] o = append-nil (uses_of o)
uses_more (p ∷ os) o =
    ap (λ l. uses_of p ++ l) (uses_more os o) ∙ sym (append_assoc (uses_of p) (flat_map uses_of os) (uses_of o))

pub answered_replies : (ranges : List declared.Interval) (ops : List RowOp) (o : Outcome) → (answered ranges ops o).replies ≡ replies_of o
answered_replies ranges ops (Fails cause) = refl
answered_replies ranges ops (Gives told after) = refl

pub answered_uses : (ranges : List declared.Interval) (ops : List RowOp) (o : Outcome) → (answered ranges ops o).uses ≡ uses_of o
answered_uses ranges ops (Fails cause) = refl
answered_uses ranges ops (Gives told after) = refl

-- a statement more keeps a session where the run with it stands
one_statement_more : (tables : List TableDef) (versions : List (List Version)) (m : Meaning) (old new : Session) (lines : List Reply) →
    lines ≡ (answer_to tables versions old.ops m).replies →
    new.ops ≡ (answer_to tables versions old.ops m).ops →
    new.genids ≡ old.genids ++ (answer_to tables versions old.ops m).uses →
    intervals_in new.ranges ≡ intervals_in old.ranges ++ used_if (answer tables versions old.ops m) (ranges_of tables versions old.ops m) →
    (ss : List Meaning) (told : List Reply) → IsAfter tables versions ss told old → IsAfter tables versions (ss ++ m ∷ []) (told ++ lines) new
one_statement_more tables versions m old new lines replies ops genids ranges ss told is =
    let run : Run = run_from tables versions [] ss in
    let o : List RowOp → Outcome = λ done. answer tables versions done m in
    let read : List declared.Interval = reads_of tables versions old.ops m in
    record {
      replies =
          ap (λ l. l ++ lines) is.replies
          ∙ ap (λ l. flat_map replies_of run.outcomes ++ l) (replies ∙ answered_replies read old.ops (o old.ops) ∙ ap (λ done. replies_of (o done)) is.ops)
          ∙ sym (replies_more run.outcomes (o run.ops))
          ∙ sym (ap (flat_map replies_of) (outcomes_more tables versions [] ss m));
      ops =
          ops ∙ after_is read old.ops (o old.ops)
          ∙ ap (λ done. ops_after done (o done)) is.ops
          ∙ sym (ops_more tables versions [] ss m);
      genids =
          genids
          ∙ ap (λ l. l ++ (answer_to tables versions old.ops m).uses) is.genids
          ∙ ap (λ l. flat_map uses_of run.outcomes ++ l) (answered_uses read old.ops (o old.ops) ∙ ap (λ done. uses_of (o done)) is.ops)
          ∙ sym (uses_more run.outcomes (o run.ops))
          ∙ sym (ap (flat_map uses_of) (outcomes_more tables versions [] ss m));
      ranges =
          ranges
          ∙ ap (λ l. l ++ used_if (o old.ops) (ranges_of tables versions old.ops m)) is.ranges
          ∙ ap (λ done. run.ranges ++ used_if (o done) (ranges_of tables versions done m)) is.ops
          ∙ sym (ranges_more tables versions [] ss m);
    }

-- what texts mean, with a text more
meanings_more : (tables : List TableDef) (texts : List (List ℕ)) (text : List ℕ) →
    meanings_of tables (texts ++ text ∷ []) ≡ meanings_of tables texts ++ meaning sql_binder tables text ∷ []
meanings_more tables [] text = refl
meanings_more tables (t ∷ texts) text = ap (λ l. meaning sql_binder tables t ∷ l) (meanings_more tables texts text)

-- the same where it was answered
pub goes_on : {E : Type 0} (result : Result (List Reply) E) (tables : List TableDef) (versions : List (List Version)) (m : Meaning) (old new : Session) →
    IfOk result (λ lines. lines ≡ (answer_to tables versions old.ops m).replies) →
    OnOk result (new.ops ≡ (answer_to tables versions old.ops m).ops) →
    OnOk result (new.genids ≡ old.genids ++ (answer_to tables versions old.ops m).uses) →
    OnOk result (intervals_in new.ranges ≡ intervals_in old.ranges ++ used_if (answer tables versions old.ops m) (ranges_of tables versions old.ops m)) →
    (ss : List Meaning) (told : List Reply) → IsAfter tables versions ss told old →
    IfOk result (λ lines. IsAfter tables versions (ss ++ m ∷ []) (told ++ lines) new)
goes_on (Ok lines) tables versions m old new replies ops genids ranges ss told is =
    one_statement_more tables versions m old new lines replies ops genids ranges ss told is
goes_on (Err e) tables versions m old new replies ops genids ranges ss told is = tt

-- and of a text
pub goes_on_by_text : {E : Type 0} (result : Result (List Reply) E) (tables : List TableDef) (versions : List (List Version)) (text : List ℕ) (m : Meaning) (old new : Session) →
    m ≡ meaning sql_binder tables text →
    ((ss : List Meaning) (told : List Reply) → IsAfter tables versions ss told old → IfOk result (λ lines. IsAfter tables versions (ss ++ m ∷ []) (told ++ lines) new)) →
    (texts : List (List ℕ)) (told : List Reply) → IsAfter tables versions (meanings_of tables texts) told old →
    IfOk result (λ lines. IsAfter tables versions (meanings_of tables (texts ++ text ∷ [])) (told ++ lines) new)
goes_on_by_text result tables versions text m old new is more texts told after =
    subst (λ (l : List Meaning). IfOk result (λ lines. IsAfter tables versions l (told ++ lines) new))
    (ap (λ (n : Meaning). meanings_of tables texts ++ n ∷ []) is ∙ sym (meanings_more tables texts text))
    (more (meanings_of tables texts) told after)
