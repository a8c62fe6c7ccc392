use Rattle.std.proofs.Common.{◌≡◌, ◌∙◌, OnErr, OnOk, ap, subst, sym}
use Rattle.node_log.specs.Logged.{Logged}
use Rattle.phys_log.specs.Logs.{Fits}
use Rattle.std.specs.Prelude.{IfSome}
use Rattle.store_log.specs.Held.{generation_of}
use Rattle.sql_run.specs.Views.{text_in}
use Rattle.session_turns.specs.Step.{Turned, turn_of}
use Rattle.session_turns.specs.Views.{doing_in}
use Rattle.script_play.specs.Down.{owner_of, IsKeptSo}
use Rattle.script_play.specs.Effects.{IsFreshIn}
use Rattle.script_play.specs.Run.{run_of}
use Rattle.script_play.specs.RunViews.{world}
use Rattle.script_play.proofs.TakeLemmas.{effect_commits, effect_fits, effect_fresh, effect_made, effect_taken, effect_tells, told_outcome}
use Rattle.script_play.proofs.lines.run_whole.Goals as goal

pub apply_effect-requires : goal.apply_effect-requires
apply_effect-requires g c = record {
  running = ap (λ (l : Logged). l.failed) same ∙ c.requires.1.0;
  fits = subst (λ (l : Logged). IfSome c.in_ok-effect.effect.added (Fits l.entries)) (sym same) (effect_fits g.start c.args.generation c.args.schema.now c.args.run.now.log.entries c.args.name.now c.in_ok-effect.effect its_turn c.in_ok-effect.ensures.effect);
  fresh = subst (λ (l : Logged). IfSome c.in_ok-effect.effect.added (IsFreshIn l.entries)) (sym same) (effect_fresh g.start c.args.generation c.args.schema.now c.args.run.now.log.entries c.args.name.now c.in_ok-effect.effect its_turn c.in_ok-effect.ensures.effect);
  commit = effect_commits g.start c.args.generation c.args.schema.now c.args.run.now.log.entries c.args.name.now c.in_ok-effect.effect its_turn c.in_ok-effect.ensures.effect;
  made = subst (λ (l : Logged). IfSome c.in_ok-effect.effect.added (λ e. generation_of e ≡ l.accepted)) (sym same)
      (effect_made g.start c.args.generation c.args.schema.now c.args.run.now.log.entries c.args.name.now c.in_ok-effect.effect its_turn c.in_ok-effect.ensures.effect c.args.run.now.log.accepted c.requires.1.1.0);
  told = effect_tells g.start c.args.generation c.args.schema.now c.args.run.now.log.entries c.args.name.now c.in_ok-effect.effect its_turn c.in_ok-effect.ensures.effect
      (told_outcome (world g.start c.args.schema.now c.args.run.now.log.entries) c.args.state.number c.args.state.level (text_in c.args.prepared.now).meaning (text_in c.args.prepared.now).kind (doing_in c.args.state.doing));
}
  where
    same : c.planned.new.log ≡ c.args.run.now.log
    same = c.in_ok-effect.ensures.same

    its_turn : Turned
    its_turn = turn_of (world g.start c.args.schema.now c.args.run.now.log.entries) c.args.state.number c.args.state.level (text_in c.args.prepared.now).meaning (text_in c.args.prepared.now).kind (doing_in c.args.state.doing)

pub returns-clause-ok : goal.returns-clause-ok
returns-clause-ok g c =
    effect_taken c.apply_effect.result g.start c.args.generation c.args.schema.now c.args.name.now c.in_ok-effect.effect
    (turn_of (world g.start c.args.schema.now c.args.run.now.log.entries) c.args.state.number c.args.state.level (text_in c.args.prepared.now).meaning (text_in c.args.prepared.now).kind (doing_in c.args.state.doing))
    c.args.run.now.lines.items c.apply_effect.new.run.lines.items c.args.run.now.entries.items c.apply_effect.new.run.entries.items c.args.run.now.log c.apply_effect.new.run.log
    c.requires.1.0 c.requires.1.1.1.0.logged c.requires.1.1.1.0.opened c.in_ok-effect.ensures.effect c.apply_effect.ensures.state
    (subst (λ (l : Logged). OnOk c.apply_effect.result (IsKeptSo c.args.name.now c.in_ok-effect.effect.number c.in_ok-effect.effect.replies.items c.in_ok-effect.effect.added
    (run_of c.args.run.now.lines.items c.args.run.now.entries.items l) (run_of c.apply_effect.new.run.lines.items c.apply_effect.new.run.entries.items c.apply_effect.new.run.log))) c.in_ok-effect.ensures.same c.apply_effect.ensures.done)
