use Rattle.std.proofs.Common.{◌∙◌, ℕ, [], List, ap, map, refl, subst, sym}
use Rattle.script_form.specs.CanRun.{script_tables}
use Rattle.script_form.specs.declared.scripts.BodyLine.{BodyLine}
use Rattle.script_play.specs.RunViews.{run_in, IsBeforeLine}
use Rattle.script_play.specs.SoFar.{at_start}
use Rattle.script_play.specs.Run.{run_of}
use Rattle.script_play.proofs.PlayLaws.{begins_at, given_at, given_first, none_left, on_err}
use Rattle.script_play.proofs.StartLemmas.{opening_is}
use Rattle.script_play.proofs.playing.play_on.Goals as goal

pub lines-init : goal.lines-init
lines-init g c =
    let are = c.in_ok-schema.ensures ∙ ap (λ ts. map (λ t. t.table) ts) c.as_slice.ensures in
    let starts = c.in_ok-states.ensures ∙ ap (λ ss. map (λ _. at_start) ss) c.as_slice-2.ensures in (
      subst (λ (bs : List BodyLine). IsBeforeLine c.args.script.now g.start c.accepted-generation.result c.args.run.now.log.store.faults bs (run_of c.args.run.now.lines.items c.open_history.new.entries.items c.args.run.now.log) c.in_ok-states.states) (sym c.as_slice-rest.ensures)
          (subst (λ (n : ℕ). IsBeforeLine c.args.script.now g.start n c.args.run.now.log.store.faults c.args.script.now.body (run_of c.args.run.now.lines.items c.open_history.new.entries.items c.args.run.now.log) c.in_ok-states.states) (sym c.accepted-generation.ensures)
          (begins_at c.args.script.now g.start c.args.run.now.log c.args.run.now.lines.items c.open_history.new.entries.items c.in_ok-states.states c.requires.1.0 c.requires.1.1.0 c.requires.1.1.1.1.1.0 c.requires.1.1.1.1.1.1.1.0
          (opening_is (script_tables c.args.script.now) c.args.run.now.log.accepted c.args.base g.start.before c.open_history.new.entries.items c.args.run.now.log.entries c.requires.1.1.1.0 c.in_ok-open_history.ensures.first c.in_ok-open_history.ensures.later c.requires.1.1.1.1.0)
          c.requires.1.1.1.1.1.1.0 starts)),
      c.accepted-generation.ensures,
      c.schema.view_is ∙ are,
      refl,
    )

pub lines-preserved : goal.lines-preserved
lines-preserved g c = (
  c.in_ok-run_line.ensures.done c.in-Some.after.now c.args.run.now.log.store.faults
      (subst (λ (bs : List BodyLine). IsBeforeLine c.args.script.now g.start c.accepted-generation.result c.args.run.now.log.store.faults bs (run_in c.lines.run) c.lines.states) c.in-Some.ensures.cases.0 c.lines.invariant.0),
  c.lines.invariant.1,
  c.lines.invariant.2,
  c.in_ok-run_line.ensures.owner ∙ c.lines.invariant.3,
)

pub returns-clause-done : goal.returns-clause-done
returns-clause-done g c = (
  c.lines.states,
  subst (λ (n : ℕ). IsBeforeLine c.args.script.now g.start n c.args.run.now.log.store.faults [] (run_in c.lines.run) c.lines.states) c.lines.invariant.1
      (subst (λ (bs : List BodyLine). IsBeforeLine c.args.script.now g.start c.accepted-generation.result c.args.run.now.log.store.faults bs (run_in c.lines.run) c.lines.states) (none_left c.lines.rest.now c.in_default.ensures.cases) c.lines.invariant.0),
)

pub returns-in_err-schema-clause-given_up : goal.returns-in_err-schema-clause-given_up
returns-in_err-schema-clause-given_up g c = on_err c.from_residual.result (given_first c.args.script.now g.start c.args.run.now.log c.requires.1.0 c.requires.1.1.0 c.requires.1.1.1.1.0 c.requires.1.1.1.1.1.1.0)

pub returns-in_err-open_history-clause-given_up : goal.returns-in_err-open_history-clause-given_up
returns-in_err-open_history-clause-given_up g c =
    on_err c.from_residual-in_err-open_history.result (given_first c.args.script.now g.start c.args.run.now.log c.requires.1.0 c.requires.1.1.0 c.requires.1.1.1.1.0 c.requires.1.1.1.1.1.1.0)

pub returns-in_err-states-clause-given_up : goal.returns-in_err-states-clause-given_up
returns-in_err-states-clause-given_up g c = on_err c.from_residual-in_err-states.result (given_first c.args.script.now g.start c.args.run.now.log c.requires.1.0 c.requires.1.1.0 c.requires.1.1.1.1.0 c.requires.1.1.1.1.1.1.0)

pub returns-in_err-run_line-clause-given_up : goal.returns-in_err-run_line-clause-given_up
returns-in_err-run_line-clause-given_up g c =
    on_err c.from_residual-in_err-run_line.result
    (given_at c.args.script.now g.start c.args.run.now.log c.lines.run.log c.run_line.new.run.log c.accepted-generation.result c.lines.rest.now c.lines.run.lines.items c.lines.run.entries.items c.lines.states
    c.lines.invariant.0 c.lines.invariant.1 c.in_err-run_line.ensures.same.1)
