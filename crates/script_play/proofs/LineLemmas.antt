-- A line of a session, as the code keeps the run: what is known before it, and that the run is kept behind it.
use Rattle.std.proofs.Common.{◌≡◌, ℕ, ◌<◌, List, ◌∷◌, length, map, refl, sym, subst, arith, Some, None, slice_set}
use Rattle.std.specs.List.{slice_get}
use Rattle.block_processor.specs.Changed.{changed_in}
use Rattle.node_log.specs.Logged.{Logged}
use Rattle.query_laws.specs.Alone.{sql_language}
use Rattle.report_laws.specs.Told.{told}
use Rattle.report_laws.specs.Work.{place_after}
use Rattle.report_text.specs.declared.reports.EntryLine.{EntryLine}
use Rattle.report_text.specs.declared.reports.Line.{Line}
use Rattle.script_form.specs.CanRun.{script_tables}
use Rattle.script_form.specs.declared.scripts.Act.TheVariants.{Say}
use Rattle.script_form.specs.declared.scripts.BodyLine.{BodyLine}
use Rattle.script_form.specs.declared.scripts.Script.{Script}
use Rattle.session_turns.specs.Doing.{SessionAt}
use Rattle.script_play.specs.Down.{history_of, IsHeldBy}
use Rattle.script_play.specs.Falls.{IsTakenOn}
use Rattle.script_play.specs.Ready.{IsLogged, IsReady, IsReadyToGo}
use Rattle.script_play.specs.Run.{run_of}
use Rattle.script_play.specs.RunViews.{seen_in, AreOver, IsBeforeLine, IsReadyFor, IsTakenFrom}
use Rattle.session_turns.specs.Views.{doing_in, state_in, IsOwn}
use Rattle.script_play.specs.SoFar.{now_of, session_at, IsBefore, Standing}
use Rattle.script_play.specs.Start.{Start}
use Rattle.session_turns.specs.Step.{world_of}
use Rattle.session_turns.specs.declared.states.SessionState.{SessionState}
use Rattle.script_play.proofs.FurtherLemmas.{further_there}
use Rattle.script_play.proofs.KeepLemmas.{taken_on}
use Rattle.script_play.proofs.OverLemmas.{are_over}
use Rattle.script_play.proofs.SiteLemmas.{Turn, found_state, map_get, map_length, map_set, own_after, own_there, told_count, turn_is}

-- what is asked of a session's line, where the session is there
pub record IsReadyLine (start : Start) (generation : ℕ) (script : Script) (name : List ℕ) (x : SessionState) (log : Logged) : Type 0 where
  pub ready : IsReadyFor start (script_tables script) (history_of log)
  pub to_go : IsReadyToGo start (script_tables script) (length (history_of log)) (history_of log) (doing_in x.doing)
  pub over : AreOver generation name x (history_of log)
  pub own : IsOwn generation name x
  pub held : IsHeldBy log.failed generation log

module _ (script : Script) (start : Start) (generation had : ℕ) (left : List BodyLine) (line : BodyLine) (lines : List Line) (entries : List EntryLine) (log : Logged) (states : List SessionState) (name text : List ℕ)
    (before : IsBeforeLine script start generation had (line ∷ left) (run_of lines entries log) states) (is_act : line.act ≡ Say name text) where
  its : Turn script start name text entries (history_of log) (map state_in states)
  its = turn_is script start log.failed left line lines entries (history_of log) (map state_in states) name text before.before before.logged is_act

  count : now_of start entries ≡ length (history_of log)
  count = sym before.logged.count

  -- its session is one of the script's
  pub declared_there : session_at name script.sessions ≡ None → ⊥
  declared_there = its.is_declared

  pub inside_there : (at : ℕ) → session_at name script.sessions ≡ Some at → at < length states
  inside_there at found =
      let inside : at < length (map state_in states) = its.inside at found in
      let many : length (map state_in states) ≡ length states = map_length state_in states in
      omega (arith, inside, many)

  -- its transactions that have entries are over
  over_there : (at : ℕ) (x : SessionState) → session_at name script.sessions ≡ Some at → slice_get states at ≡ Some x → AreOver generation name x (history_of log)
  over_there at x found has =
      are_over script start before.before.done (seen_in start (history_of log)).next stands.mine generation entries (history_of log) name x before.earlier before.told before.before.so_far.ended stands.doing stands.number
    where
      stands : Standing script start entries (seen_in start (history_of log)).next name (place_after sql_language name before.before.done) (told name lines) (state_in x)
      stands = subst (λ (y : SessionAt). Standing script start entries (seen_in start (history_of log)).next name (place_after sql_language name before.before.done) (told name lines) y)
          (found_state 0 name script.sessions (map state_in states) at at (state_in x) found (omega arith) (map_get state_in states at x has)) (before.before.so_far.standing name)

  -- and is ready for it
  pub ready_there : (at : ℕ) (x : SessionState) → session_at name script.sessions ≡ Some at → slice_get states at ≡ Some x → IsReadyLine start generation script name x log
  ready_there at x found has = record {
    ready = subst (λ (n : ℕ). IsReady start (script_tables script) n (history_of log)) count its.ready;
    to_go = subst (λ (n : ℕ). IsReadyToGo start (script_tables script) n (history_of log) (doing_in x.doing)) count (its.to_go at (state_in x) found (map_get state_in states at x has));
    over = over_there at x found has;
    own = own_there generation script.sessions states name at x before.own found has;
    held = before.held.held;
  }

  -- a line that was taken keeps the run
  pub taken_there : (at : ℕ) (x after : SessionState) (lines' : List Line) (entries' : List EntryLine) (log' : Logged) → session_at name script.sessions ≡ Some at → slice_get states at ≡ Some x →
      IsTakenFrom start generation (script_tables script) name x text after (run_of lines entries log) (run_of lines' entries' log') → IsBeforeLine script start generation had left (run_of lines' entries' log') (slice_set states at after)
  taken_there at x after lines' entries' log' found has run = record {
    before = subst (λ (ss : List SessionAt). IsBefore script start log'.failed left lines' entries' (changed_in (history_of log')) (seen_in start (history_of log')) ss) (sym (map_set state_in states at after))
        (taken_on script start log.failed log'.failed left line lines lines' entries entries' (changed_in (history_of log)) (changed_in (history_of log')) (seen_in start (history_of log)) (seen_in start (history_of log'))
        (map state_in states) name text at (state_in x) (state_in after) before.before is_act found (map_get state_in states at x has)
        (subst (λ (n : ℕ). IsTakenOn log.failed log'.failed (world_of (script_tables script) (seen_in start (history_of log)) (changed_in (history_of log)) n) name (state_in x) text (state_in after) lines lines' entries entries' (changed_in (history_of log')) (seen_in start (history_of log')))
        before.logged.count run.taken));
    logged = subst (λ (n : ℕ). IsLogged start (script_tables script) n (history_of log')) (told_count start.before generation entries' (history_of log') (run.told before.told)) run.logged;
    told = run.told before.told;
    own = own_after generation script.sessions states name at after before.own found run.own;
    earlier = before.earlier;
    held = run.held had before.held;
    further = further_there script start generation had left line lines lines' entries entries' log log' states (map state_in states) name text at (state_in x) (state_in after) before refl is_act found (map_get state_in states at x has) run.taken run.further;
  }
