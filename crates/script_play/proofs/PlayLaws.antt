-- The run at its opening and at its end, and a line as it is planned and done.
use Rattle.std.proofs.Common.{◌≡◌, zero, suc, ℕ, ◌+◌, ◌-◌, ◌++◌, Bool, true, false, List, [], ◌∷◌, length, map, refl, sym, subst, ap, arith, ◌∙◌, Result, Ok, Err, OnOk, OnErr, IfOk}
use Rattle.std.proofs.lemmas.List.{length-take-le}
use Rattle.std.specs.Prelude.{slice_get, Some}
use Rattle.block_processor.specs.Changed.{changed_in}
use Rattle.node_log.specs.Logged.{Logged, Leaves}
use Rattle.report_laws.specs.History.{view_of}
use Rattle.report_laws.specs.Nodes.{downs}
use Rattle.report_laws.specs.Play.{GoDownAtChanges}
use Rattle.report_laws.proofs.DownLaws.{none_go_down}
use Rattle.report_laws.proofs.NodesLaws.{downs_append}
use Rattle.phys_log.specs.declared.entries.Entry.{Entry}
use Rattle.report_text.specs.declared.reports.EntryLine.{EntryLine}
use Rattle.report_text.specs.declared.reports.EntryLine.TheVariants.{Setup}
use Rattle.report_text.specs.declared.reports.Line.{Line}
use Rattle.report_text.specs.declared.reports.Report.{Report}
use Rattle.script_form.specs.CanRun.{CanRun, script_tables}
use Rattle.script_form.specs.declared.scripts.BodyLine.{BodyLine}
use Rattle.script_form.specs.declared.scripts.Script.{Script}
use Rattle.script_form.specs.declared.scripts.SessionLine.{SessionLine}
use Rattle.script_play.specs.Basis.{from_start}
use Rattle.session_turns.specs.Doing.{SessionAt}
use Rattle.session_turns.specs.Doing as doing
use Rattle.script_play.specs.Played.{downs_by, IsGivenUp, IsHistory, IsPlayed}
use Rattle.script_play.specs.Run.{run_of}
use Rattle.script_play.specs.RunViews.{seen_in, AreOwn, IsBeforeLine, IsOpenedBehind, IsOpening}
use Rattle.session_turns.specs.Views.{doing_in, state_in, IsOwn, IsOwnDoing}
use Rattle.script_play.specs.EntryLines.{AreTold}
use Rattle.script_play.specs.Ready.{AreEarlier, CanBegin, IsLogged}
use Rattle.script_play.specs.SoFar.{now_of, at_start, report_of, IsAtNode, IsBefore, IsStoredSoFar}
use Rattle.script_play.specs.Down.{down_line, history_by, history_of, with_entries, IsCaused, IsHeld, IsHeldBy}
use Rattle.script_play.specs.Start.{Start, base}
use Rattle.session_turns.specs.declared.states.InTransaction.{InTransaction}
use Rattle.session_turns.specs.declared.states.InTransaction.TheVariants.{No, Open, Aborted}
use Rattle.session_turns.specs.declared.states.SessionState.{SessionState}
use Rattle.script_play.proofs.FurtherLemmas.{falls_at_changes, further_told}
use Rattle.script_play.proofs.SiteLemmas.{told_count}
use Rattle.script_play.proofs.StartLemmas.{opens, Opens}
use Rattle.script_play.proofs.WholeLemmas.{ends_lawful, ends_in_order}

-- no session has an open transaction
rests_own : (generation : ℕ) (name : List ℕ) (s : SessionState) → state_in s ≡ at_start → IsOwn generation name s
rests_own generation name s rests = go s.doing (ap (λ (a : SessionAt). a.doing) rests)
  where
    go : (d : InTransaction) → doing_in d ≡ doing.No → IsOwnDoing generation name s.number s.level d
    go No is = tt
    go (Open session) is = absurd cc
    go Aborted is = tt

all_rest : (all : List SessionLine) (states : List SessionState) (at : ℕ) (x : SessionState) → map state_in states ≡ map (λ _. at_start) all → slice_get states at ≡ Some x → state_in x ≡ at_start
all_rest all [] at x starts is = absurd cc
all_rest [] (y ∷ ys) at x starts is = absurd cc
all_rest (l ∷ all) (y ∷ ys) zero x starts is = let same : y ≡ x = cc in let first : state_in y ≡ at_start = cc in sym (ap state_in same) ∙ first
all_rest (l ∷ all) (y ∷ ys) (suc at) x starts is = let later : map state_in ys ≡ map (λ _. at_start) all = cc in all_rest all ys at x later is

pub opens_own : (generation : ℕ) (sessions : List SessionLine) (states : List SessionState) → map state_in states ≡ map (λ _. at_start) sessions → AreOwn generation sessions states
opens_own generation sessions states starts at s x line is = rests_own generation s.name x (all_rest sessions states at x starts is)

-- no line is left
pub none_left : (rest : List BodyLine) → length rest ≡ 0 → rest ≡ []
none_left [] is = refl
none_left (l ∷ ls) is = absurd (omega (arith, is))

-- how many down lines there are, by whether the node is down
downs_at : (down : Bool) (script : Script) (lines : List Line) (states : List SessionAt) → IsAtNode down script lines states → downs lines ≡ downs_by down
downs_at false script lines states is = is
downs_at true script lines states is =
    let parts : downs (is.front ++ down_line ∷ is.back) ≡ downs is.front + (downs is.back + 1) = downs_append is.front (down_line ∷ is.back) in
    let before = is.unhurt in let behind = is.once in
    ap downs is.is ∙ omega (arith, parts, before, behind)

-- a log at its opening is held
held_first : (log : Logged) → log.failed ≡ false → IsHeld log.accepted log.store.faults log
held_first log up = record {
  held = subst (λ (b : Bool). IsHeldBy b log.accepted log) (sym up) refl;
  caused = subst (λ (b : Bool). IsCaused b log.store.faults log.store.faults) (sym up) refl;
}

-- the run before the first line of the script
pub begins_at : (script : Script) (start : Start) (log : Logged) (lines : List Line) (entries : List EntryLine) (states : List SessionState) → CanRun script → log.failed ≡ false → AreEarlier log.accepted start.before → lines ≡ [] →
    IsOpening (script_tables script) log.accepted start.before entries log.entries → CanBegin (script_tables script) start.before start.rows → map state_in states ≡ map (λ _. at_start) script.sessions →
    IsBeforeLine script start log.accepted log.store.faults script.body (run_of lines entries log) states
begins_at script start log lines entries states can up earlier none opening begin starts = record {
  before = subst (λ (ls : List Line). IsBefore script start log.failed script.body ls entries (changed_in (history_of log)) (seen_in start (history_of log)) (map state_in states)) (sym none)
      (subst (λ (b : Bool). IsBefore script start b script.body [] entries (changed_in (history_by b log.entries)) (seen_in start (history_by b log.entries)) (map state_in states)) (sym up) first.before_line);
  logged = subst (λ (b : Bool). IsLogged start (script_tables script) (now_of start entries) (history_by b log.entries)) (sym up) first.logged_so;
  told = subst (λ (b : Bool). AreTold start.before log.accepted entries (history_by b log.entries)) (sym up) first.told;
  own = opens_own log.accepted script.sessions states starts;
  earlier = earlier;
  held = held_first log up;
  further = λ down. let never : false ≡ true = sym up ∙ down in absurd cc;
}
  where
    first : Opens script start log.accepted entries log.entries (map state_in states)
    first = opens script (script_tables script) start.before start.rows log.accepted entries log.entries (map state_in states) can refl begin opening starts

-- where the node went down in it, a transaction with operations was to be committed
go_down_so : (script : Script) (start : Start) (generation had : ℕ) (lines : List Line) (entries : List EntryLine) (log : Logged) (states : List SessionState) → IsBeforeLine script start generation had [] (run_of lines entries log) states →
    GoDownAtChanges (from_start script start) (view_of (from_start script start) entries) [] lines
go_down_so script start generation had lines entries log states now = go log.failed refl
  where
    count : downs lines ≡ downs_by log.failed
    count = downs_at log.failed script lines (map state_in states) now.before.so_far.node

    go : (b : Bool) → log.failed ≡ b → GoDownAtChanges (from_start script start) (view_of (from_start script start) entries) [] lines
    go false up = none_go_down (from_start script start) (view_of (from_start script start) entries) [] lines (count ∙ ap downs_by up)
    go true down = falls_at_changes script start generation lines entries log (now.further down) (count ∙ ap downs_by down)

-- what a run that is done leaves
done_so : (script : Script) (start : Start) (opened : Logged) (lines : List Line) (entries : List EntryLine) (log : Logged) (states : List SessionState) →
    IsBeforeLine script start opened.accepted opened.store.faults [] (run_of lines entries log) states →
    IsPlayed script start opened (report_of (base start) (now_of start entries) lines entries) log
done_so script start opened lines entries log states now = record {
  told = record {
    lawful = ends_lawful script start log.failed now.before.done lines entries (changed_in (history_of log)) (seen_in start (history_of log)) (map state_in states) now.before.so_far;
    in_order = ends_in_order script start log.failed now.before.done lines entries (changed_in (history_of log)) (seen_in start (history_of log)) (map state_in states) now.before.so_far
        (go_down_so script start opened.accepted opened.store.faults lines entries log states now);
    entries = now.told;
    schema = now.logged.schema;
    changed = λ k first within. now.before.so_far.stored.changed_are k first (let n = now.logged.count in omega (arith, n, within));
    rows = λ k from within. now.before.so_far.stored.rows_are k from (let n = now.logged.count in omega (arith, n, within));
    stands = now.logged.stands;
    small = now.logged.small;
  };
  faults = downs_at log.failed script lines (map state_in states) now.before.so_far.node;
  held = now.held;
  further = λ down. further_told script start opened.accepted lines entries log (report_of (base start) (now_of start entries) lines entries) refl refl (now.further down);
}

pub done_at : (script : Script) (start : Start) (opened : Logged) (lines : List Line) (entries : List EntryLine) (log : Logged) (states : List SessionState) (told : ℕ) (report : Report) →
    IsBeforeLine script start opened.accepted opened.store.faults [] (run_of lines entries log) states → told ≡ base start → report ≡ report_of told (length (history_of log)) lines entries →
    IsPlayed script start opened report log
done_at script start opened lines entries log states told report now base_is is =
    subst (λ (r : Report). IsPlayed script start opened r log) (sym report_is) (done_so script start opened lines entries log states now)
  where
    report_is : report ≡ report_of (base start) (now_of start entries) lines entries
    report_is = is ∙ ap (λ n. report_of n (length (history_of log)) lines entries) base_is ∙ ap (λ n. report_of (base start) n lines entries) now.logged.count

-- the history of a log, and the lines that tell it
history_so : (script : Script) (start : Start) (generation : ℕ) (entries : List EntryLine) (log : List Entry) → IsStoredSoFar script start entries (changed_in log) (seen_in start log) →
    IsLogged start (script_tables script) (now_of start entries) log → AreTold start.before generation entries log → IsHistory script start generation entries log
history_so script start generation entries log stored logged told = record {
  lawful = stored.history;
  told = told;
  schema = logged.schema;
  changed = λ k first within. stored.changed_are k first (let n = logged.count in omega (arith, n, within));
  rows = λ k from within. stored.rows_are k from (let n = logged.count in omega (arith, n, within));
  stands = logged.stands;
  small = logged.small;
}

-- a run is given up before the first line of the script
pub given_first : (script : Script) (start : Start) (log : Logged) → CanRun script → log.failed ≡ false → IsOpenedBehind (script_tables script) log.accepted start.before log.entries →
    CanBegin (script_tables script) start.before start.rows → IsGivenUp script start log log
given_first script start log can up is begin = record {
  entries = first.0;
  history = subst (λ (b : Bool). IsHistory script start log.accepted first.0 (history_by b log.entries)) (sym up)
      (history_so script start log.accepted first.0 log.entries first.1.before_line.so_far.stored first.1.logged_so first.1.told);
  held = held_first log up;
  further = λ down. let never : false ≡ true = sym up ∙ down in absurd cc;
}
  where
    -- the lines that the history has there
    lines : (before : List Entry) → IsOpenedBehind (script_tables script) log.accepted before log.entries → (entries : List EntryLine) × IsOpening (script_tables script) log.accepted before entries log.entries
    lines [] opened = (Setup 1 ∷ [], record { first = λ none. (refl, opened.first none); later = λ some. absurd (omega (arith, some)) })
    lines (e ∷ es) opened = ([], record { first = λ none. absurd cc; later = λ some. (refl, opened.later some) })

    first : (entries : List EntryLine) × Opens script start log.accepted entries log.entries (map (λ _. at_start) script.sessions)
    first =
        let l = lines start.before is in
        (l.0, opens script (script_tables script) start.before start.rows log.accepted l.0 log.entries (map (λ _. at_start) script.sessions) can refl begin l.1 refl)

-- and at a line, which leaves the log as it was
pub given_at : (script : Script) (start : Start) (opened log log' : Logged) (generation : ℕ) (left : List BodyLine) (lines : List Line) (entries : List EntryLine) (states : List SessionState) →
    IsBeforeLine script start generation opened.store.faults left (run_of lines entries log) states → generation ≡ opened.accepted → log' ≡ log → IsGivenUp script start opened log'
given_at script start opened log log' generation left lines entries states now made same = subst (λ (l : Logged). IsGivenUp script start opened l) (sym same) (record {
  entries = entries;
  history = subst (λ (n : ℕ). IsHistory script start n entries (history_of log)) made (history_so script start generation entries (history_of log) now.before.so_far.stored now.logged now.told);
  held = subst (λ (n : ℕ). IsHeld n opened.store.faults log) made now.held;
  further = λ down.
      let more = now.further down in (
        more.line,
        subst (λ (n : ℕ). IsHistory script start n (entries ++ more.line ∷ []) log.entries) made
            (history_so script start generation (entries ++ more.line ∷ []) log.entries more.stored
            (subst (λ (n : ℕ). IsLogged start (script_tables script) n log.entries) (told_count start.before generation (entries ++ more.line ∷ []) log.entries more.told) more.logged) more.told),
      );
})

-- how many entries the history of a log has
pub told_up : (log : Logged) → log.failed ≡ false → length (history_of log) ≡ length log.entries
told_up log up = ap (λ (b : Bool). length (history_by b log.entries)) up

pub told_down : (log : Logged) → log.failed ≡ true → length (history_of log) ≡ length log.entries - 1
told_down log down = ap (λ (b : Bool). length (history_by b log.entries)) down ∙ length-take-le (length log.entries - 1) log.entries (omega arith)

-- what is held of a log, by whether the node is down
pub held_made : (log : Logged) (generation had : ℕ) → IsHeld generation had log → log.failed ≡ false → log.accepted ≡ generation
held_made log generation had is up = subst (λ (b : Bool). IsHeldBy b generation log) up is.held

pub held_left : (log : Logged) (generation had : ℕ) → IsHeld generation had log → log.failed ≡ true → Leaves log.store (with_entries log (history_of log) ∷ log ∷ [])
held_left log generation had is down = (subst (λ (b : Bool). IsHeldBy b generation log) down is.held).1

pub on_ok : {T E : Type 0} {P Q : Type 0} (r : Result T E) → (P → Q) → OnOk r P → OnOk r Q
on_ok (Ok x) f is = f is
on_ok (Err e) f is = tt

pub if_ok : {T E : Type 0} {P Q : T → Type 0} (r : Result T E) → ((x : T) → P x → Q x) → IfOk r P → IfOk r Q
if_ok (Ok x) f is = f x is
if_ok (Err e) f is = tt

pub on_err : {T E : Type 0} {P : Type 0} (r : Result T E) → P → OnErr r P
on_err (Ok x) is = tt
on_err (Err e) is = is
