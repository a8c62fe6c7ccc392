use Rattle.std.proofs.Common.{◌≡◌, ◌∙◌, List, IfOk, ap, refl, subst, sym}
use Rattle.blkseq_table.specs.OfLogs.{identities_of}
use Rattle.node_log.specs.Logged.{Logged}
use Rattle.phys_log.specs.declared.entries.Entry.{Entry}
use Rattle.script_play.specs.Effects.{IsEffect}
use Rattle.script_play.specs.RunViews.{turn_in, AreOver, CanGoOn, IsReadyFor}
use Rattle.sql_run.specs.Views.{text_in}
use Rattle.undo_snapshot.specs.Positions.{AreOfLog}
use Rattle.script_play.proofs.lines.planned.Given as given
use Rattle.script_play.proofs.lines.planned.Goals as goal

pub effect_of-effect-requires : goal.effect_of-effect-requires
effect_of-effect-requires g c = record {
  ready = subst (λ (es : List Entry). IsReadyFor g.start c.args.schema.now es) (sym same) c.requires.1.1.0;
  known = c.known.ensures ∙ ap identities_of (ap (λ (l : Logged). l.entries) c.take_undone-undone.ensures.same ∙ sym same);
  going = subst (λ (es : List Entry). CanGoOn g.start c.args.schema.now es c.args.state.doing) (sym same) c.requires.1.1.1.0;
  over = subst (λ (es : List Entry). AreOver c.args.generation c.args.name.now c.args.state es) (sym same) c.requires.1.1.1.1.0;
  own = c.requires.1.1.1.1.1.0;
  plan = c.requires.1.1.1.1.1.1.0;
  of_text = c.requires.1.1.1.1.1.1.1;
  undone = subst (λ (es : List Entry). AreOfLog es c.take_undone-undone.result) (sym same) c.take_undone-undone.ensures.pages;
  begins = refl;
}
  where
    same : c.log.result.now ≡ c.args.log.now.entries
    same = c.log.ensures ∙ ap (λ (l : Logged). l.entries) c.take_undone-undone.ensures.same
