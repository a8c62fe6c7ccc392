-- A line that is planned, done or cut short: what each step needs and leaves.
use Rattle.std.proofs.Common.{◌≡◌, ◌≢◌, ℕ, ◌+◌, ◌-◌, ◌≤◌, ◌<◌, Bool, true, false, List, [], ◌∷◌, ◌++◌, length, map, take, refl, sym, subst, ap, arith, Option, Some, None, ◌∙◌, Result, Ok, Err, IfOk, OnOk, IfSome, inl, inr, option_to_list, append-nil, append_assoc}
use Rattle.std.proofs.Math.Seq.{take-append_seam}
use Rattle.std.proofs.lemmas.List.{length-append, map-append}
use Rattle.std.specs.List.{AllByRecursion}
use Rattle.std.specs.Prelude.{drop}
use Rattle.cdb_outside.specs.Faults.{Rose}
use Rattle.cdb_values.specs.Rows.{Rows, apply_all}
use Rattle.cdb_values.specs.declared.rows.Change.{Change}
use Rattle.cdb_values.specs.declared.rows.Level.{Level}
use Rattle.cdb_values.specs.declared.rows.RowOp.{RowOp}
use Rattle.cdb_values.specs.declared.tables.TableDef.{TableDef}
use Rattle.live_operations.specs.Live.{AreLive}
use Rattle.block_processor.specs.Changed.{changed_in}
use Rattle.log_rows.specs.History.{rows_over, rows_over_at, IsCommit, IsFrom}
use Rattle.log_rows.proofs.HistoryLemmas.{rows_earlier, rows_whole, stand_more, schema_front}
use Rattle.node_log.specs.Logged.{Logged, Leaves, with_entry}
use Rattle.phys_log.specs.Logs.{Fits, page_at}
use Rattle.phys_log.specs.declared.entries.Entry.{Entry}
use Rattle.phys_log.specs.declared.entries.Entry.TheVariants.{Setup as EntrySetup, Commit as EntryCommit}
use Rattle.range_validate.specs.Touches.{changes_in}
use Rattle.sql_answer.specs.Answers.{Meaning}
use Rattle.query_laws.specs.Alone.{sql_language}
use Rattle.sql_answer.specs.Reading.{kind_of_text}
use Rattle.sql_run.specs.Texts.{answer_to}
use Rattle.report_text.specs.declared.reports.EntryLine.{EntryLine}
use Rattle.report_text.specs.declared.reports.EntryLine.TheVariants.{Commit}
use Rattle.report_text.specs.declared.reports.Line.{Line}
use Rattle.cdb_values.specs.declared.replies.Reply.{Reply}
use Rattle.cdb_values.specs.declared.replies.Reply.TheVariants as reply
use Rattle.cdb_values.specs.Changes.{changes_of}
use Rattle.session_language.specs.Language.{Kind, BeginText, CommitText, RollbackText, LevelText, OtherText}
use Rattle.report_laws.specs.Told.{lines_of}
use Rattle.cdb_values.specs.declared.items.GenidItem.{GenidItem}
use Rattle.cdb_values.specs.declared.items.Interval.{Interval}
use Rattle.store_log.specs.Held.{generation_of}
use Rattle.store_log.specs.Keeps.{Stored}
use Rattle.table_store.specs.Stored.{Stands}
use Rattle.session_turns.specs.Decisions.{added_by}
use Rattle.script_play.proofs.LiveLemmas.{stands_distinct, text_alone_leaves_live}
use Rattle.script_play.proofs.SqlLaws.{kept_answer}
use Rattle.script_play.specs.Effects.{IsEffect, IsAdded, IsEntryOf, IsFreshIn, IsOfIts, Named, lines_added, named_so}
use Rattle.session_turns.specs.Cuts.{cut_in}
use Rattle.session_turns.specs.Doing.{Doing}
use Rattle.session_turns.specs.Doing as doing
use Rattle.script_play.specs.Run.{run_of}
use Rattle.script_play.specs.Down.{fallen_lines, with_entries, HasOutcome, IsFallenAt, IsKeptSo, TellsOutcome}
use Rattle.script_play.specs.EntryLines.{AreTold, IsMadeIn, line_of, lines_from}
use Rattle.script_play.specs.Ready.{AreKept, IsAble, IsKeptOp, IsLogged, IsReady}
use Rattle.script_play.specs.RunViews.{seen_in, world, IsDoneFrom, IsOfText, IsTakenFrom}
use Rattle.session_turns.specs.Views.{state_in, IsOwn, IsOwnDoing, IsShut}
use Rattle.session_turns.specs.declared.states.InTransaction.{InTransaction}
use Rattle.session_turns.specs.declared.states.InTransaction.TheVariants.{No, Open, Aborted}
use Rattle.script_play.specs.Start.{Start, base, ground_of}
use Rattle.session_turns.specs.Step.{World, Turned, answer_of, outcome, turn_of, cut_by}
use Rattle.script_play.specs.Step.{IsTurned, IsKept, entries_added}
use Rattle.script_play.specs.declared.effects.DecidedEffect.{DecidedEffect}
use Rattle.session_turns.specs.declared.states.SessionState.{SessionState}

-- the pages of a log stand at a position
pub stands_there : (start : Start) (tables : List TableDef) (now begin : ℕ) (log : List Entry) → IsLogged start tables now log → IsFrom (base start) begin → begin ≤ now → Stands (page_at log begin) tables (rows_over_at (ground_of start) log begin)
stands_there start tables now begin log logged first within = logged.stands begin first (let n = logged.count in omega (arith, within, n))

-- a transaction of one line can come to its commit
pub own_able : (start : Start) (tables : List TableDef) (now begin : ℕ) (log : List Entry) (meant : Meaning) (ops done : List RowOp) → IsReady start tables now log → IsOfText tables meant → begin ≡ now → done ≡ [] →
    ops ≡ (answer_to tables (rows_over_at (ground_of start) log begin).tables done meant).ops → IsAble start tables now log begin ops
own_able start tables now begin log meant ops done ready of_text at none are = record {
  first = from_now;
  within = omega (arith, at);
  kept = subst (λ (o : List RowOp). AllByRecursion (IsKeptOp tables (rows_over (ground_of start) log).next) o) (sym its)
      (kept_answer tables (rows_over_at (ground_of start) log begin).tables [] of_text.0 (rows_over (ground_of start) log).next ready.askable of_text.1 (subst (λ k. kept_at k) (sym at) (ready.kept now ready.opened (omega arith))) tt);
  live = subst (λ (o : List RowOp). AreLive (rows_over_at (ground_of start) log begin).tables o) (sym its)
      (text_alone_leaves_live tables (rows_over_at (ground_of start) log begin).tables of_text.0 (stands_distinct tables (rows_over_at (ground_of start) log begin) (stands_there start tables now begin log ready.logged from_now (omega (arith, at)))));
}
  where
    from_now : IsFrom (base start) begin
    from_now = (let o = ready.opened.0 in omega (arith, o, at), let o = ready.opened.1 in omega (arith, o, at))

    kept_at : ℕ → Type 0
    kept_at k = AreKept tables (rows_over (ground_of start) log).next (rows_over_at (ground_of start) log k).tables

    its : ops ≡ (sql_language.answer tables (rows_over_at (ground_of start) log begin).tables [] of_text.0).ops
    its = are ∙ ap (λ (o : List RowOp). (answer_to tables (rows_over_at (ground_of start) log begin).tables o meant).ops) none
        ∙ ap (λ (m : Meaning). (answer_to tables (rows_over_at (ground_of start) log begin).tables [] m).ops) of_text.2

-- the entry that a line appends is the next one of the log
added_fits : (start : Start) (tables : List TableDef) (log : List Entry) (added : Option Entry) (named : Named) (all : List (List RowOp)) → IsAdded start tables log added named all → IfSome added (Fits log)
added_fits start tables log None named all is = tt
added_fits start tables log (Some entry) named [] is = absurd is
added_fits start tables log (Some entry) named (ops ∷ []) is = is.fits
added_fits start tables log (Some entry) named (ops ∷ more ∷ others) is = absurd is

pub effect_fits : (start : Start) (generation : ℕ) (tables : List TableDef) (log : List Entry) (name : List ℕ) (p : DecidedEffect) (t : Turned) → IsEffect start generation tables log name p t → IfSome p.added (Fits log)
effect_fits start generation tables log name p t is = added_fits start tables log p.added (named_so generation name t.number t.begin t.after.level) t.added is.added

-- what is kept of an entry, where one is appended, behind a log that is in order
pub record Kept (start : Start) (tables : List TableDef) (log log' : List Entry) (now : ℕ) (all : List (List RowOp)) : Type 0 where
  changes : changed_in log' ≡ changed_in log ++ map (λ ops. changes_of ops (rows_over (ground_of start) log).next) all
  rows : IsKept now (seen_in start log) (seen_in start log') all
  logged : IsLogged start tables (now + length all) log'

module _ (start : Start) (tables : List TableDef) (log : List Entry) (now : ℕ) (logged : IsLogged start tables now log) (opened : IsFrom (base start) now) where
  kept_none : Kept start tables log (log ++ []) now []
  kept_none = subst (λ (es : List Entry). Kept start tables log es now []) (sym (append-nil log)) (record {
    changes = sym (append-nil (changed_in log));
    rows = refl;
    logged = subst (λ n. IsLogged start tables n log) (let e : now ≡ now + 0 = omega arith in e) logged;
  })

  kept_one : (entry : Entry) (named : Named) (ops : List RowOp) → IsEntryOf start tables log entry named ops → Kept start tables log (log ++ entry ∷ []) now (ops ∷ [])
  kept_one entry named ops is = record {
    changes = map-append changes_in log (entry ∷ []) ∙ ap (λ (made : List Change). changed_in log ++ made ∷ []) is.changes;
    rows = (last_rows, earlier, ap (λ (r : Rows). r.next) is.rows ∙ ap (λ (r : Rows). (apply_all r ops).next) now_rows);
    logged = record {
      count = let c = logged.count in omega (arith, c, length-append log (entry ∷ []));
      schema = schema_front log (entry ∷ []) some ∙ logged.schema;
      commits = behind_first log some logged.commits;
      stands = stand_more (ground_of start) tables log entry logged.stands is.stands;
      small = is.small logged.small;
    };
  }
    where
      some : 1 ≤ length log
      some = let c = logged.count in let o = opened.0 in omega (arith, c, o)

      count : length (log ++ entry ∷ []) ≡ now + 1
      count = let c = logged.count in omega (arith, c, length-append log (entry ∷ []))

      now_rows : rows_over (ground_of start) log ≡ rows_over_at (ground_of start) log now
      now_rows = sym (ap (λ k. rows_over_at (ground_of start) log k) (sym logged.count) ∙ rows_whole (ground_of start) log)

      last_rows : rows_over_at (ground_of start) (log ++ entry ∷ []) (now + 1) ≡ apply_all (rows_over_at (ground_of start) log now) ops
      last_rows = ap (λ k. rows_over_at (ground_of start) (log ++ entry ∷ []) k) (sym count) ∙ rows_whole (ground_of start) (log ++ entry ∷ []) ∙ is.rows ∙ ap (λ (r : Rows). apply_all r ops) now_rows

      earlier : (at : ℕ) → at < now + 1 → rows_over_at (ground_of start) (log ++ entry ∷ []) at ≡ rows_over_at (ground_of start) log at
      earlier at before = rows_earlier (ground_of start) log (entry ∷ []) at (let c = logged.count in omega (arith, c, before))

      behind_first : (es : List Entry) → 1 ≤ length es → AllByRecursion IsCommit (drop 1 es) → AllByRecursion IsCommit (drop 1 (es ++ entry ∷ []))
      behind_first [] some all = absurd (omega (arith, some))
      behind_first (e ∷ es) some all = at_end es all
        where
          at_end : (more : List Entry) → AllByRecursion IsCommit more → AllByRecursion IsCommit (more ++ entry ∷ [])
          at_end [] all = (is.commit, tt)
          at_end (m ∷ more) all = (all.0, at_end more all.1)

  pub kept_added : (added : Option Entry) (named : Named) (all : List (List RowOp)) → IsAdded start tables log added named all → Kept start tables log (log ++ option_to_list added) now all
  kept_added None named [] is = kept_none
  kept_added None named (ops ∷ more) is = absurd is
  kept_added (Some entry) named [] is = absurd is
  kept_added (Some entry) named (ops ∷ []) is = kept_one entry named ops is
  kept_added (Some entry) named (ops ∷ more ∷ others) is = absurd is

-- the line of the history of what is added
added_line : (start : Start) (tables : List TableDef) (log : List Entry) (named : Named) (now : ℕ) (added : Option Entry) (all : List (List RowOp)) → IsAdded start tables log added named all →
    lines_added now added ≡ map (λ ops. Commit (now + 1) named.session named.number named.begin named.level) all
added_line start tables log named now None [] is = refl
added_line start tables log named now None (ops ∷ more) is = absurd is
added_line start tables log named now (Some entry) [] is = absurd is
added_line start tables log named now (Some entry) (ops ∷ []) is = ap (λ (l : EntryLine). l ∷ []) (is.names (now + 1))
added_line start tables log named now (Some entry) (ops ∷ more ∷ others) is = absurd is

-- lines of entries, and of one more
lines_more : (position : ℕ) (log : List Entry) (added : Option Entry) (now : ℕ) → now + 1 ≡ position + length log → lines_from position (log ++ option_to_list added) ≡ lines_from position log ++ lines_added now added
lines_more position [] None now at = refl
lines_more position [] (Some entry) now at = let same : position ≡ now + 1 = omega (arith, at) in ap (λ k. line_of k entry ∷ []) same
lines_more position (e ∷ log) added now at = ap (λ (es : List EntryLine). line_of position e ∷ es) (lines_more (position + 1) log added now (omega (arith, at)))

-- what is added was made in the generation
of_its_made : (generation : ℕ) (name : List ℕ) (number begin : ℕ) (level : Level) (entry : Entry) → IsOfIts (named_so generation name number begin level) entry → IsMadeIn generation entry
of_its_made generation name number begin level (EntrySetup made tables records) is = absurd is
of_its_made generation name number begin level (EntryCommit made id at of changes records) is = is

made_in : (start : Start) (generation : ℕ) (tables : List TableDef) (log : List Entry) (name : List ℕ) (number begin : ℕ) (level : Level) (added : Option Entry) (all : List (List RowOp)) →
    IsAdded start tables log added (named_so generation name number begin level) all → AllByRecursion (IsMadeIn generation) (option_to_list added)
made_in start generation tables log name number begin level None all is = tt
made_in start generation tables log name number begin level (Some entry) [] is = absurd is
made_in start generation tables log name number begin level (Some entry) (ops ∷ []) is = (of_its_made generation name number begin level entry is.of_its, tt)
made_in start generation tables log name number begin level (Some entry) (ops ∷ more ∷ others) is = absurd is

all_behind : (generation : ℕ) (made : List Entry) (added : List Entry) → AllByRecursion (IsMadeIn generation) made → AllByRecursion (IsMadeIn generation) added → AllByRecursion (IsMadeIn generation) (made ++ added)
all_behind generation [] added first second = second
all_behind generation (e ∷ made) added first second = (first.0, all_behind generation made added first.1 second)

-- a history that is told of a log goes on to be
told_more : (before : List Entry) (generation : ℕ) (log log' : List Entry) (added : Option Entry) (entries entries' : List EntryLine) → AllByRecursion (IsMadeIn generation) (option_to_list added) →
    entries' ≡ entries ++ lines_added (length log) added → log' ≡ log ++ option_to_list added → AreTold before generation entries log → AreTold before generation entries' log'
told_more before generation log log' added entries entries' made kept grows is = record {
  made = is.made ++ option_to_list added;
  behind = grows ∙ ap (λ (es : List Entry). es ++ option_to_list added) is.behind ∙ append_assoc before is.made (option_to_list added);
  told = kept ∙ ap (λ (es : List EntryLine). es ++ lines_added (length log) added) is.told ∙ sym (lines_more (length before + 1) is.made added (length log) count);
  in_it = all_behind generation is.made (option_to_list added) is.in_it made;
}
  where
    count : length log + 1 ≡ length before + 1 + length is.made
    count = let n = ap (λ (es : List Entry). length es) is.behind in omega (arith, n, length-append before is.made)

-- what a line leaves of a log that stays up, by the entries of the log
abbrev WasDone : Start → ℕ → List TableDef → List ℕ → Turned → SessionState → List Line → List Line → List EntryLine → List EntryLine → List Entry → List Entry → Type 0
WasDone start generation tables name t after lines lines' entries entries' log log' =
    IsTurned (world start tables log) name t lines lines' entries entries' (changed_in log') (seen_in start log') × (state_in after ≡ t.after) × IsLogged start tables (length log') log'
    × (AreTold start.before generation entries log → AreTold start.before generation entries' log') × IsOwn generation name after

-- a plan that was done is what the line does
effect_done : (start : Start) (generation : ℕ) (tables : List TableDef) (log log' : List Entry) (name : List ℕ) (p : DecidedEffect) (t : Turned) (after : SessionState) (lines lines' : List Line) (entries entries' : List EntryLine) →
    IsLogged start tables (length log) log → IsFrom (base start) (length log) → IsEffect start generation tables log name p t → after ≡ p.after →
    lines' ≡ lines ++ lines_of name p.number p.replies.items → entries' ≡ entries ++ lines_added (length log) p.added → log' ≡ log ++ option_to_list p.added →
    WasDone start generation tables name t after lines lines' entries entries' log log'
effect_done start generation tables log log' name p t after lines lines' entries entries' logged opened is there told kept grows = (
  record {
    lines_are = told ∙ ap (λ n. lines ++ lines_of name n p.replies.items) is.number ∙ ap (λ rs. lines ++ lines_of name t.number rs) is.replies;
    entries_are = kept ∙ ap (λ (es : List EntryLine). entries ++ es) (added_line start tables log (named_so generation name t.number t.begin t.after.level) (length log) p.added t.added is.added);
    changed_are = ap (λ (es : List Entry). changed_in es) grows ∙ its.changes;
    rows_are = subst (λ (es : List Entry). IsKept (length log) (seen_in start log) (seen_in start es) t.added) (sym grows) its.rows;
  },
  ap (λ (s : SessionState). state_in s) there ∙ is.after,
  subst (λ (es : List Entry). IsLogged start tables (length es) es) (sym grows)
      (subst (λ n. IsLogged start tables n (log ++ option_to_list p.added)) (sym its.logged.count) its.logged),
  told_more start.before generation log log' p.added entries entries' (made_in start generation tables log name t.number t.begin t.after.level p.added t.added is.added) kept grows,
  subst (λ (s : SessionState). IsOwn generation name s) (sym there) is.own,
)
  where
    its : Kept start tables log (log ++ option_to_list p.added) (length log) t.added
    its = kept_added start tables log (length log) logged opened p.added (named_so generation name t.number t.begin t.after.level) t.added is.added

-- the same of a log that stayed
told_same : (before : List Entry) (generation : ℕ) (log log' : List Entry) (entries entries' : List EntryLine) → entries' ≡ entries → log' ≡ log → AreTold before generation entries log → AreTold before generation entries' log'
told_same before generation log log' entries entries' es same is = record {
  made = is.made;
  behind = same ∙ is.behind;
  told = es ∙ is.told;
  in_it = is.in_it;
}

-- a log that is up, written so
abbrev up_log : Logged → Logged
up_log log = record log { failed = false }

is_up : (log : Logged) → log.failed ≡ false → log ≡ up_log log
is_up log up = ap (λ (b : Bool). record log { failed = b }) up

-- a node that was up is up behind a line
done_up : (start : Start) (generation : ℕ) (tables : List TableDef) (name : List ℕ) (t : Turned) (after : SessionState) (lines lines' : List Line) (entries entries' : List EntryLine) (log log' : Logged) →
    log.failed ≡ false → log'.failed ≡ log.failed → log'.accepted ≡ log.accepted → log'.store.faults ≡ log.store.faults →
    WasDone start generation tables name t after lines lines' entries entries' log.entries log'.entries → IsDoneFrom start generation tables name t after (run_of lines entries log) (run_of lines' entries' log')
done_up start generation tables name t after lines lines' entries entries' log log' up stays accepted calm was =
    subst (λ (l : Logged). IsDoneFrom start generation tables name t after (run_of lines entries l) (run_of lines' entries' log')) (sym (is_up log up))
    (subst (λ (l : Logged). IsDoneFrom start generation tables name t after (run_of lines entries (up_log log)) (run_of lines' entries' l)) (sym (is_up log' (stays ∙ up))) (record {
      done = (was.0, was.1);
      logged = was.2;
      told = was.3;
      own = was.4;
      held = λ had is. record {
        held = accepted ∙ is.held;
        caused = calm ∙ is.caused;
      };
      further = tt;
    }))

-- a log with an entry at which its store failed
abbrev fallen_log : Logged → Entry → Stored → Logged
fallen_log log entry store = record (with_entry log entry) { store = store; failed = true }

without_last : (es : List Entry) (entry : Entry) → take (length (es ++ entry ∷ []) - 1) (es ++ entry ∷ []) ≡ es
without_last es entry = ap (λ n. take n (es ++ entry ∷ [])) count ∙ take-append_seam es (entry ∷ [])
  where
    count : length (es ++ entry ∷ []) - 1 ≡ length es
    count = omega (arith, length-append es (entry ∷ []))

rose_since : (had before now : ℕ) → before ≡ had → Rose before now → Rose had now
rose_since had before now same rises = subst (λ (n : ℕ). Rose n now) same rises

left_so : (log : Logged) (entry : Entry) (store : Stored) (es : List Entry) → es ≡ log.entries → Leaves store (log ∷ with_entry log entry ∷ []) →
    Leaves store (with_entries (fallen_log log entry store) es ∷ fallen_log log entry store ∷ [])
left_so log entry store es is left = subst (λ (x : List Entry). Leaves store (with_entries (fallen_log log entry store) x ∷ fallen_log log entry store ∷ [])) (sym is) left

-- a node that was up goes down at the entry of a line
done_fallen : (start : Start) (generation : ℕ) (tables : List TableDef) (name : List ℕ) (t : Turned) (after : SessionState) (lines lines' : List Line) (entries entries' : List EntryLine) (log log' : Logged) (entry : Entry) (outcome : HasOutcome t.replies) →
    log.failed ≡ false → IsLogged start tables (length log.entries) log.entries → (ops : List RowOp) → t.added ≡ ops ∷ [] → lines' ≡ lines ++ fallen_lines name t.number outcome.front → state_in after ≡ t.after → IsOwn generation name after →
    WasDone start generation tables name t after lines (lines ++ lines_of name t.number t.replies) entries (entries ++ entries_added name (length log.entries) t) log.entries (log.entries ++ entry ∷ []) →
    IsFallenAt entry (run_of lines entries log) (run_of lines' entries' log') → IsDoneFrom start generation tables name t after (run_of lines entries log) (run_of lines' entries' log')
done_fallen start generation tables name t after lines lines' entries entries' log log' entry outcome up logged ops commits told there own was fell =
    subst (λ (l : Logged). IsDoneFrom start generation tables name t after (run_of lines entries l) (run_of lines' entries' log')) (sym (is_up log up))
    (subst (λ (l : Logged). IsDoneFrom start generation tables name t after (run_of lines entries (up_log log)) (run_of lines' entries' l)) (sym fell.log_is) (record {
      done = record {
        commits = subst (λ (all : List (List RowOp)). all ≢ []) (sym commits) (λ none. cc);
        outcome = outcome;
        lines_are = told;
        after_is = there;
        still = record {
          entries_are = fell.entries_are;
          changed_are = ap (λ (es : List Entry). changed_in es) (without_last log.entries entry);
          rows_are = ap (λ (es : List Entry). seen_in start es) (without_last log.entries entry);
        };
      };
      logged = subst (λ (es : List Entry). IsLogged start tables (length es) es) (sym (without_last log.entries entry)) logged;
      told = told_same start.before generation log.entries (take (length (log.entries ++ entry ∷ []) - 1) (log.entries ++ entry ∷ [])) entries entries' fell.entries_are (without_last log.entries entry);
      own = own;
      held = λ had is. record {
        held = (omega (arith, length-append log.entries (entry ∷ [])), left_so log entry log'.store (take (length (log.entries ++ entry ∷ []) - 1) (log.entries ++ entry ∷ [])) (without_last log.entries entry) fell.left);
        caused = rose_since had log.store.faults log'.store.faults is.caused fell.rose;
      };
      further = record { ops = ops; commits = commits; turned = was.0; logged = was.2; told = was.3 };
    }))

-- where an entry is appended, operations are committed
adds_some : (start : Start) (tables : List TableDef) (log : List Entry) (entry : Entry) (named : Named) (all : List (List RowOp)) → IsAdded start tables log (Some entry) named all → all ≢ []
adds_some start tables log entry named [] is = absurd is
adds_some start tables log entry named (ops ∷ more) is = λ none. cc

adds_one : (start : Start) (tables : List TableDef) (log : List Entry) (entry : Entry) (named : Named) (all : List (List RowOp)) → IsAdded start tables log (Some entry) named all → (ops : List RowOp) × (all ≡ ops ∷ [])
adds_one start tables log entry named [] is = absurd is
adds_one start tables log entry named (ops ∷ []) is = (ops, refl)
adds_one start tables log entry named (ops ∷ more ∷ others) is = absurd is

-- what was told and kept of a plan is what the line does
effect_kept : (start : Start) (generation : ℕ) (tables : List TableDef) (name : List ℕ) (p : DecidedEffect) (t : Turned) (after : SessionState) (lines lines' : List Line) (entries entries' : List EntryLine) (log log' : Logged) →
    log.failed ≡ false → IsLogged start tables (length log.entries) log.entries → IsFrom (base start) (length log.entries) → IsEffect start generation tables log.entries name p t → after ≡ p.after →
    IsKeptSo name p.number p.replies.items p.added (run_of lines entries log) (run_of lines' entries' log') → IsDoneFrom start generation tables name t after (run_of lines entries log) (run_of lines' entries' log')
effect_kept start generation tables name p t after lines lines' entries entries' log log' up logged opened is there kept = go p.added refl kept
  where
    done : entries' ≡ entries ++ lines_added (length log.entries) p.added → log'.entries ≡ log.entries ++ option_to_list p.added → lines' ≡ lines ++ lines_of name p.number p.replies.items →
        WasDone start generation tables name t after lines lines' entries entries' log.entries log'.entries
    done es grows told = effect_done start generation tables log.entries log'.entries name p t after lines lines' entries entries' logged opened is there told es grows

    go : (added : Option Entry) → p.added ≡ added → IsKeptSo name p.number p.replies.items added (run_of lines entries log) (run_of lines' entries' log') → IsDoneFrom start generation tables name t after (run_of lines entries log) (run_of lines' entries' log')
    go None none (told, es, same) =
        done_up start generation tables name t after lines lines' entries entries' log log' up (ap (λ (l : Logged). l.failed) same) (ap (λ (l : Logged). l.accepted) same)
        (ap (λ (l : Logged). l.store.faults) same)
        (done (es ∙ sym (append-nil entries) ∙ ap (λ (o : Option Entry). entries ++ lines_added (length log.entries) o) (sym none))
        (ap (λ (l : Logged). l.entries) same ∙ sym (append-nil log.entries) ∙ ap (λ (o : Option Entry). log.entries ++ option_to_list o) (sym none)) told)
    go (Some entry) some (inl (told, entered)) =
        done_up start generation tables name t after lines lines' entries entries' log log' up (ap (λ (l : Logged). l.failed) entered.log_is) (ap (λ (l : Logged). l.accepted) entered.log_is) entered.calm
        (done (entered.entries_are ∙ ap (λ (o : Option Entry). entries ++ lines_added (length log.entries) o) (sym some))
        (ap (λ (l : Logged). l.entries) entered.log_is ∙ ap (λ (o : Option Entry). log.entries ++ option_to_list o) (sym some)) told)
    go (Some entry) some (inr (told, falls, fell)) =
        done_fallen start generation tables name t after lines lines' entries entries' log log' entry (record { front = told.front; outcome = told.outcome; is = sym is.replies ∙ told.is }) up logged one.0 one.1
        (falls ∙ ap (λ n. lines ++ fallen_lines name n told.front) is.number) (ap (λ (s : SessionState). state_in s) there ∙ is.after) (subst (λ (s : SessionState). IsOwn generation name s) (sym there) is.own)
        (effect_done start generation tables log.entries (log.entries ++ entry ∷ []) name p t after lines (lines ++ lines_of name t.number t.replies) entries (entries ++ entries_added name (length log.entries) t) logged opened is there
        (sym (ap (λ n. lines ++ lines_of name n p.replies.items) is.number ∙ ap (λ rs. lines ++ lines_of name t.number rs) is.replies))
        (ap (λ (es : List EntryLine). entries ++ es) (sym (added_line start tables log.entries (named_so generation name t.number t.begin t.after.level) (length log.entries) p.added t.added is.added)))
        (ap (λ (o : Option Entry). log.entries ++ option_to_list o) (sym some)))
        fell
      where
        one : (ops : List RowOp) × (t.added ≡ ops ∷ [])
        one = adds_one start tables log.entries entry (named_so generation name t.number t.begin t.after.level) t.added
            (subst (λ (o : Option Entry). IsAdded start tables log.entries o (named_so generation name t.number t.begin t.after.level) t.added) some is.added)

-- the same of what the code answers
pub effect_taken : {E : Type 0} (result : Result SessionState E) (start : Start) (generation : ℕ) (tables : List TableDef) (name : List ℕ) (p : DecidedEffect) (t : Turned) (lines lines' : List Line) (entries entries' : List EntryLine) (log log' : Logged) →
    log.failed ≡ false → IsLogged start tables (length log.entries) log.entries → IsFrom (base start) (length log.entries) → IsEffect start generation tables log.entries name p t → IfOk result (λ after. after ≡ p.after) →
    OnOk result (IsKeptSo name p.number p.replies.items p.added (run_of lines entries log) (run_of lines' entries' log')) → IfOk result (λ after. IsDoneFrom start generation tables name t after (run_of lines entries log) (run_of lines' entries' log'))
effect_taken (Err e) start generation tables name p t lines lines' entries entries' log log' up logged opened is there kept = tt
effect_taken (Ok after) start generation tables name p t lines lines' entries entries' log log' up logged opened is there kept =
    effect_kept start generation tables name p t after lines lines' entries entries' log log' up logged opened is there kept

-- a line that commits an entry is told the outcome of its transaction at last
pub told_outcome : (w : World) (number : ℕ) (level : Level) (meant : Meaning) (k : Kind) (d : Doing) → (turn_of w number level meant k d).added ≢ [] → HasOutcome (turn_of w number level meant k d).replies
told_outcome w number level meant BeginText doing.No adds = absurd (adds refl)
told_outcome w number level meant CommitText doing.No adds = absurd (adds refl)
told_outcome w number level meant RollbackText doing.No adds = absurd (adds refl)
told_outcome w number level meant (LevelText later) doing.No adds = absurd (adds refl)
told_outcome w number level meant OtherText doing.No adds = record { front = reply.Begin w.now ∷ (answer_of w w.now [] meant).replies; outcome = outcome w w.now level (answer_of w w.now [] meant).uses (answer_of w w.now [] meant).ranges (answer_of w w.now [] meant).ops; is = refl }
told_outcome w number level meant BeginText (doing.Open begin ops uses ranges) adds = absurd (adds refl)
told_outcome w number level meant CommitText (doing.Open begin ops uses ranges) adds = record { front = []; outcome = outcome w begin level uses ranges ops; is = refl }
told_outcome w number level meant RollbackText (doing.Open begin ops uses ranges) adds = absurd (adds refl)
told_outcome w number level meant (LevelText later) (doing.Open begin ops uses ranges) adds = absurd (adds refl)
told_outcome w number level meant OtherText (doing.Open begin ops uses ranges) adds = absurd (adds refl)
told_outcome w number level meant BeginText doing.Aborted adds = absurd (adds refl)
told_outcome w number level meant CommitText doing.Aborted adds = absurd (adds refl)
told_outcome w number level meant RollbackText doing.Aborted adds = absurd (adds refl)
told_outcome w number level meant (LevelText later) doing.Aborted adds = absurd (adds refl)
told_outcome w number level meant OtherText doing.Aborted adds = absurd (adds refl)

-- what the entry of a plan needs to be appended, beside that it is the next one of the log
module _ (start : Start) (generation : ℕ) (tables : List TableDef) (log : List Entry) (name : List ℕ) (p : DecidedEffect) (t : Turned) (is : IsEffect start generation tables log name p t) where
  pub effect_commits : IfSome p.added IsCommit
  effect_commits = go p.added t.added is.added
    where
      go : (added : Option Entry) (all : List (List RowOp)) → IsAdded start tables log added (named_so generation name t.number t.begin t.after.level) all → IfSome added IsCommit
      go None all adds = tt
      go (Some entry) [] adds = absurd adds
      go (Some entry) (ops ∷ []) adds = adds.commit
      go (Some entry) (ops ∷ more ∷ others) adds = absurd adds

  pub effect_fresh : IfSome p.added (IsFreshIn log)
  effect_fresh = go p.added t.added is.added
    where
      go : (added : Option Entry) (all : List (List RowOp)) → IsAdded start tables log added (named_so generation name t.number t.begin t.after.level) all → IfSome added (IsFreshIn log)
      go None all adds = tt
      go (Some entry) [] adds = absurd adds
      go (Some entry) (ops ∷ []) adds = adds.fresh
      go (Some entry) (ops ∷ more ∷ others) adds = absurd adds

  pub effect_made : (accepted : ℕ) → accepted ≡ generation → IfSome p.added (λ e. generation_of e ≡ accepted)
  effect_made accepted made = go p.added t.added is.added
    where
      its : (entry : Entry) → IsOfIts (named_so generation name t.number t.begin t.after.level) entry → generation_of entry ≡ accepted
      its (EntrySetup at schema records) of_its = absurd of_its
      its (EntryCommit at id begin level changes records) of_its = of_its.0 ∙ sym made

      go : (added : Option Entry) (all : List (List RowOp)) → IsAdded start tables log added (named_so generation name t.number t.begin t.after.level) all → IfSome added (λ e. generation_of e ≡ accepted)
      go None all adds = tt
      go (Some entry) [] adds = absurd adds
      go (Some entry) (ops ∷ []) adds = its entry adds.of_its
      go (Some entry) (ops ∷ more ∷ others) adds = absurd adds

  pub effect_tells : (t.added ≢ [] → HasOutcome t.replies) → TellsOutcome p.replies.items p.added
  effect_tells tells = go p.added is.added
    where
      at_last : HasOutcome t.replies → HasOutcome p.replies.items
      at_last told = record { front = told.front; outcome = told.outcome; is = is.replies ∙ told.is }

      go : (added : Option Entry) → IsAdded start tables log added (named_so generation name t.number t.begin t.after.level) t.added → TellsOutcome p.replies.items added
      go None adds = tt
      go (Some entry) adds = at_last (tells (adds_some start tables log entry (named_so generation name t.number t.begin t.after.level) t.added adds))

-- a session without an open transaction has its own
shut_doing : (generation : ℕ) (name : List ℕ) (number : ℕ) (level : Level) (d : InTransaction) → IsShut d → IsOwnDoing generation name number level d
shut_doing generation name number level No shut = tt
shut_doing generation name number level (Open session) shut = absurd shut
shut_doing generation name number level Aborted shut = tt

pub shut_own : (generation : ℕ) (name : List ℕ) (s : SessionState) → IsShut s.doing → IsOwn generation name s
shut_own generation name s shut = shut_doing generation name s.number s.level s.doing shut

-- a line that was cut short, by the entries of the log
cut_done : (start : Start) (generation : ℕ) (tables : List TableDef) (log : Logged) (name : List ℕ) (before after : SessionState) (text : List ℕ) (lines lines' : List Line) (entries entries' : List EntryLine) →
    log.failed ≡ false → IsLogged start tables (length log.entries) log.entries → IsShut after.doing → cut_by before.number before.level (kind_of_text text) (state_in before).doing ≡ cut_in after →
    lines' ≡ lines ++ lines_of name after.number (reply.NoMemory ∷ []) → entries' ≡ entries → IsTakenFrom start generation tables name before text after (run_of lines entries log) (run_of lines' entries' log)
cut_done start generation tables log name before after text lines lines' entries entries' up logged shut its told es =
    subst (λ (l : Logged). IsTakenFrom start generation tables name before text after (run_of lines entries l) (run_of lines' entries' l)) (sym (is_up log up)) (record {
      taken = inr (record { number = after.number; after = state_in after }, its, record { lines_are = told; entries_are = es; changed_are = refl; rows_are = refl }, refl);
      logged = logged;
      told = told_same start.before generation log.entries log.entries entries entries' es refl;
      own = shut_own generation name after shut;
      held = λ had is. is;
      further = tt;
    })

-- a line that was cut short
pub cut_taken : {E : Type 0} (start : Start) (generation : ℕ) (tables : List TableDef) (log log' : Logged) (name : List ℕ) (before : SessionState) (text : List ℕ) (k : Kind) (cut : Option SessionState) (result : Result SessionState E) (lines lines' : List Line) (entries entries' : List EntryLine) →
    log.failed ≡ false → IsLogged start tables (length log.entries) log.entries → IfSome cut (λ after. IsShut after.doing) →
    k ≡ kind_of_text text → IfSome cut (λ after. cut_by before.number before.level k (state_in before).doing ≡ cut_in after) → IfOk result (λ after. cut ≡ Some after) → IfOk result (λ after. lines' ≡ lines ++ lines_of name after.number (reply.NoMemory ∷ [])) →
    entries' ≡ entries → log' ≡ log → IfOk result (λ after. IsTakenFrom start generation tables name before text after (run_of lines entries log) (run_of lines' entries' log'))
cut_taken start generation tables log log' name before text k cut (Err e) lines lines' entries entries' up logged shut is its there told es same = tt
cut_taken start generation tables log log' name before text k cut (Ok after) lines lines' entries entries' up logged shut is its there told es same =
    subst (λ (l : Logged). IsTakenFrom start generation tables name before text after (run_of lines entries log) (run_of lines' entries' l)) (sym same)
    (cut_done start generation tables log name before after text lines lines' entries entries' up logged
    (subst (λ (o : Option SessionState). IfSome o (λ (x : SessionState). IsShut x.doing)) there shut)
    (ap (λ (x : Kind). cut_by before.number before.level x (state_in before).doing) (sym is)
    ∙ subst (λ (o : Option SessionState). IfSome o (λ (x : SessionState). cut_by before.number before.level k (state_in before).doing ≡ cut_in x)) there its) told es)

pub of_ok : {T E : Type 0} {P Q : T → Type 0} (r : Result T E) → ((x : T) → P x → Q x) → IfOk r P → IfOk r Q
of_ok (Ok x) f is = f x is
of_ok (Err e) f is = tt
