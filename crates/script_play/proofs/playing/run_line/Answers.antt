use Rattle.std.proofs.Common.{◌∙◌, ap, sym, subst, length, List, slice_set}
use Rattle.cdb_values.specs.declared.tables.TableDef.{TableDef}
use Rattle.script_form.specs.declared.scripts.Act.TheVariants.{Say}
use Rattle.script_play.specs.Down.{history_of}
use Rattle.script_play.specs.Ready.{IsReadyToGo}
use Rattle.script_play.specs.RunViews.{run_in, IsBeforeLine, IsReadyFor, IsTakenFrom}
use Rattle.session_turns.specs.Views.{doing_in}
use Rattle.script_play.specs.SoFar.{session_at}
use Rattle.session_turns.specs.declared.states.SessionState.{SessionState}
use Rattle.script_play.proofs.LineLemmas.{declared_there, inside_there, ready_there, taken_there, IsReadyLine}
use Rattle.script_play.proofs.SiteLemmas.{inside_set, set_again}
use Rattle.script_play.proofs.playing.run_line.Goals as goal

pub returns-in_default-find_session-clause-done : goal.returns-in_default-find_session-clause-done
returns-in_default-find_session-clause-done g c = λ left had before.
    absurd (declared_there c.args.script.now g.start c.args.generation had left c.args.line.now c.args.run.now.lines.items c.args.run.now.entries.items c.args.run.now.log c.args.states.now c.in-Say.session c.in-Say.text before c.in-Say.is
    (sym (c.find_session.ensures ∙ ap (λ ss. session_at c.in-Say.session ss) c.as_slice.ensures) ∙ c.in_default-find_session.is))

pub replace_at-state-requires : goal.replace_at-state-requires
replace_at-state-requires g c =
    inside_there c.args.script.now g.start c.args.generation c.requires.1.1.1 c.requires.1.1.0 c.args.line.now c.args.run.now.lines.items c.args.run.now.entries.items c.args.run.now.log c.args.states.now c.in-Say.session c.in-Say.text c.requires.1.1.2 c.in-Say.is
    c.in-Some.at (sym (c.find_session.ensures ∙ ap (λ ss. session_at c.in-Say.session ss) c.as_slice.ensures) ∙ c.in-Some.is)

pub replace_at-at_rest-requires : goal.replace_at-at_rest-requires
replace_at-at_rest-requires g c =
    inside_set c.args.states.now c.replace_at-state.new.self c.in-Some.at c.at_rest.result c.replace_at-state.ensures.after
    (inside_there c.args.script.now g.start c.args.generation c.requires.1.1.1 c.requires.1.1.0 c.args.line.now c.args.run.now.lines.items c.args.run.now.entries.items c.args.run.now.log c.args.states.now c.in-Say.session c.in-Say.text c.requires.1.1.2 c.in-Say.is
    c.in-Some.at (sym (c.find_session.ensures ∙ ap (λ ss. session_at c.in-Say.session ss) c.as_slice.ensures) ∙ c.in-Some.is))

pub run_session_line-requires : goal.run_session_line-requires
run_session_line-requires g c = λ κs lives. (
  lives,
  (
    subst (λ (ts : List TableDef). IsReadyFor g.start ts (history_of c.args.run.now.log)) (sym c.requires.1.0) its.ready,
    (subst (λ (ts : List TableDef). IsReadyToGo g.start ts (length (history_of c.args.run.now.log)) (history_of c.args.run.now.log) (doing_in c.replace_at-state.result.doing)) (sym c.requires.1.0) its.to_go, (its.over, (its.own, its.held))),
  ),
)
  where
    its : IsReadyLine g.start c.args.generation c.args.script.now c.in-Say.session c.replace_at-state.result c.args.run.now.log
    its = ready_there c.args.script.now g.start c.args.generation c.requires.1.1.1 c.requires.1.1.0 c.args.line.now c.args.run.now.lines.items c.args.run.now.entries.items c.args.run.now.log c.args.states.now c.in-Say.session c.in-Say.text c.requires.1.1.2 c.in-Say.is
        c.in-Some.at c.replace_at-state.result (sym (c.find_session.ensures ∙ ap (λ ss. session_at c.in-Say.session ss) c.as_slice.ensures) ∙ c.in-Some.is) c.replace_at-state.ensures.before

pub returns-clause-done : goal.returns-clause-done
returns-clause-done g c = λ left had before.
    subst (λ (ss : List SessionState). IsBeforeLine c.args.script.now g.start c.args.generation had left (run_in c.run_session_line.new.run) ss)
    (sym (c.replace_at-at_rest.ensures.after ∙ ap (λ (ss : List SessionState). slice_set ss c.in-Some.at c.in_ok-after.after) c.replace_at-state.ensures.after ∙ set_again c.args.states.now c.in-Some.at c.at_rest.result c.in_ok-after.after))
    (taken_there c.args.script.now g.start c.args.generation had left c.args.line.now c.args.run.now.lines.items c.args.run.now.entries.items c.args.run.now.log c.args.states.now c.in-Say.session c.as_bytes.result.now before
    (c.in-Say.is ∙ ap (λ t. Say c.in-Say.session t) (sym c.as_bytes.ensures))
    c.in-Some.at c.replace_at-state.result c.in_ok-after.after c.run_session_line.new.run.lines.items c.run_session_line.new.run.entries.items c.run_session_line.new.run.log
    (sym (c.find_session.ensures ∙ ap (λ ss. session_at c.in-Say.session ss) c.as_slice.ensures) ∙ c.in-Some.is) c.replace_at-state.ensures.before
    (subst (λ (ts : List TableDef). IsTakenFrom g.start c.args.generation ts c.in-Say.session c.replace_at-state.result c.as_bytes.result.now c.in_ok-after.after (run_in c.args.run.now) (run_in c.run_session_line.new.run)) c.requires.1.0 c.in_ok-after.ensures.taken))
