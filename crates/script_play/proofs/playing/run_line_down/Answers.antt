use Rattle.std.proofs.Common.{◌≡◌, ◌∙◌, ℕ, List, Some, ◌∷◌, ap, arith, length, map, slice_get, slice_set, subst, sym}
use Rattle.report_text.specs.declared.reports.Line.{Line}
use Rattle.script_form.specs.declared.scripts.Act.TheVariants.{Say}
use Rattle.script_form.specs.declared.scripts.BodyLine.{BodyLine}
use Rattle.script_form.specs.declared.scripts.Script.{Script}
use Rattle.session_language.specs.Language.{Kind}
use Rattle.sql_answer.specs.Reading.{kind_of_text}
use Rattle.sql_run.specs.Views.{kind_in}
use Rattle.session_turns.specs.Doing.{SessionAt}
use Rattle.script_play.specs.Down.{turn_down, IsToldDown}
use Rattle.session_turns.specs.Views.{doing_in, state_in}
use Rattle.script_play.specs.SoFar.{session_at}
use Rattle.script_play.specs.SoFarDown.{IsBeforeDown}
use Rattle.session_turns.specs.declared.states.SessionState.{SessionState}
use Rattle.script_play.proofs.DownRunLemmas.{is_found, is_inside, went_down}
use Rattle.script_play.proofs.SiteLemmas.{map_get, map_length, map_set, set_again}
use Rattle.std.proofs.lemmas.List.{length-set}
use Rattle.script_play.proofs.playing.run_line_down.Goals as goal

-- a line of the script that was told so, by where the code keeps the sessions
line_down : (script : Script) (left : List BodyLine) (l : BodyLine) (lines lines' : List Line) (states mid states' : List SessionState) (name text : List ℕ) (at : ℕ) (x rest after : SessionState) (k : Kind) →
    IsBeforeDown script (l ∷ left) lines (map state_in states) → l.act ≡ Say name text → session_at name script.sessions ≡ Some at → slice_get states at ≡ Some x →
    mid ≡ slice_set states at rest → states' ≡ slice_set mid at after → k ≡ kind_of_text text →
    IsToldDown name (turn_down x.number x.level k (doing_in x.doing)) (state_in after) lines lines' → IsBeforeDown script left lines' (map state_in states')
line_down script left l lines lines' states mid states' name text at x rest after k before is_act found has held put is told =
    subst (λ (ss : List SessionAt). IsBeforeDown script left lines' ss) (sym there)
    (went_down script left l lines lines' (map state_in states) name text at (state_in x) (state_in after) before is_act found (map_get state_in states at x has)
    (subst (λ (q : Kind). IsToldDown name (turn_down x.number x.level q (doing_in x.doing)) (state_in after) lines lines') is told))
  where
    there : map state_in states' ≡ slice_set (map state_in states) at (state_in after)
    there = ap (λ (ss : List SessionState). map state_in ss) (put ∙ ap (λ (ss : List SessionState). slice_set ss at after) held ∙ set_again states at rest after) ∙ map_set state_in states at after

pub returns-in_default-find_session : goal.returns-in_default-find_session
returns-in_default-find_session c = λ left before.
    absurd (is_found c.args.script.now left c.args.line.now c.args.lines.now.items (map state_in c.args.states.now) c.in-Say.session c.in-Say.text before c.in-Say.is
    (sym (c.find_session.ensures ∙ ap (λ ss. session_at c.in-Say.session ss) c.as_slice.ensures) ∙ c.in_default-find_session.is))

pub replace_at-state-requires : goal.replace_at-state-requires
replace_at-state-requires c =
    let inside = is_inside c.args.script.now c.requires.before.0 c.args.line.now c.args.lines.now.items (map state_in c.args.states.now) c.in-Say.session c.in-Some.at c.requires.before.1
    (sym (c.find_session.ensures ∙ ap (λ ss. session_at c.in-Say.session ss) c.as_slice.ensures) ∙ c.in-Some.is) in
    let many = map_length state_in c.args.states.now in
    omega (arith, inside, many)

pub replace_at-at_rest-requires : goal.replace_at-at_rest-requires
replace_at-at_rest-requires c =
    let inside = is_inside c.args.script.now c.requires.before.0 c.args.line.now c.args.lines.now.items (map state_in c.args.states.now) c.in-Say.session c.in-Some.at c.requires.before.1
    (sym (c.find_session.ensures ∙ ap (λ ss. session_at c.in-Say.session ss) c.as_slice.ensures) ∙ c.in-Some.is) in
    let many = map_length state_in c.args.states.now in
    let same = ap (λ (ss : List SessionState). length ss) c.replace_at-state.ensures.after ∙ length-set c.args.states.now c.in-Some.at c.at_rest.result in
    omega (arith, inside, many, same)

pub returns : goal.returns
returns c = λ left before.
    line_down c.args.script.now left c.args.line.now c.args.lines.now.items c.run_down.new.lines.items c.args.states.now c.replace_at-state.new.self c.replace_at-at_rest.new.self c.in-Say.session c.in-Say.text
    c.in-Some.at c.replace_at-state.result c.at_rest.result c.in_ok-after.after (kind_in c.kind-kind.result)
    before c.in-Say.is (sym (c.find_session.ensures ∙ ap (λ ss. session_at c.in-Say.session ss) c.as_slice.ensures) ∙ c.in-Some.is) c.replace_at-state.ensures.before
    c.replace_at-state.ensures.after c.replace_at-at_rest.ensures.after (c.kind-kind.ensures ∙ c.in_ok-prepared.ensures.kind ∙ ap kind_of_text c.as_bytes.ensures) c.in_ok-after.ensures
