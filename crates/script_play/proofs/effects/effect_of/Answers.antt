use Rattle.std.proofs.Common.{◌≡◌, sym, subst}
use Rattle.std.specs.List.{AllByRecursion}
use Rattle.sql_run.specs.Texts.{plan_by}
use Rattle.sql_run.specs.Views.{text_in}
use Rattle.session_turns.specs.Answers.{IfOpen, IsDone}
use Rattle.session_turns.specs.Doing.{open_begin}
use Rattle.session_turns.specs.Views.{doing_in, IsOwn}
use Rattle.session_turns.specs.declared.turns.Turn.{Turn}
use Rattle.script_play.proofs.TakeLemmas.{of_ok}
use Rattle.script_play.proofs.TurnedLemmas.{can_commit, done_on, reads_open, turned_effect}
use Rattle.script_play.specs.Reading.{CanRead, Reader}
use Rattle.script_play.specs.RunViews.{world, IsReadyFor}
use Rattle.script_play.proofs.effects.effect_of.Goals as goal

pub take_turn-requires : goal.take_turn-requires
take_turn-requires g c = record {
  ready = subst (λ (n : Reader). IsReadyFor g.J.Footing.start n.tables n.log) (sym c.new-reader.ensures) c.requires.ready;
  readable = subst (λ (n : Reader). AllByRecursion (CanRead g.J.Footing.start n.tables n.log) (open_begin (doing_in c.args.state.doing))) (sym c.new-reader.ensures)
      (reads_open g.J.Footing.start c.args.schema.now c.args.log.now c.args.state.doing c.requires.ready c.requires.going);
  own = subst (λ (n : Reader). IsOwn n.generation c.args.name.now c.args.state) (sym c.new-reader.ensures) c.requires.own;
  plan = subst (λ (n : Reader). (text_in c.args.prepared.now).plan ≡ plan_by n.tables (text_in c.args.prepared.now).meaning) (sym c.new-reader.ensures) c.requires.plan;
}

pub with_outcome-requires : goal.with_outcome-requires
with_outcome-requires g c = (
  c.requires.ready,
  (
    c.requires.known,
    can_commit g.J.Footing.start c.args.generation c.args.schema.now c.args.log.now c.args.name.now c.args.state.number c.args.state.level (text_in c.args.prepared.now).meaning c.requires.ready c.requires.of_text
        c.args.state.doing (text_in c.args.prepared.now).kind c.in-Done.asked c.requires.going c.requires.over
        (done_on g.J.Footing.start c.new-reader.result c.take_turn.new.node c.args.schema.now c.args.log.now c.args.generation c.args.name.now c.args.state.number c.args.state.level c.args.state.doing
        (text_in c.args.prepared.now).meaning (text_in c.args.prepared.now).kind c.in_ok-asked.field-0 c.in-Done.asked c.new-reader.ensures c.take_turn.ensures.rests c.in-Done.is c.in_ok-asked.ensures.turn),
  ),
)

pub returns-clause-effect : goal.returns-clause-effect
returns-clause-effect g c =
    of_ok c.with_outcome.result (λ p its. turned_effect g.J.Footing.start c.args.generation c.args.schema.now c.args.log.now c.args.name.now c.args.state.number c.args.state.level (doing_in c.args.state.doing)
    (text_in c.args.prepared.now).meaning (text_in c.args.prepared.now).kind c.in-Done.asked p done its) (c.with_outcome.ensures c.args.name.now done.effect.own done.effect.own_commit)
  where
    done : IsDone (world g.J.Footing.start c.args.schema.now c.args.log.now) (world g.J.Footing.start c.args.schema.now c.args.log.now) c.args.generation c.args.name.now c.args.state.number c.args.state.level
        (doing_in c.args.state.doing) (text_in c.args.prepared.now).meaning (text_in c.args.prepared.now).kind c.in-Done.asked
    done =
        done_on g.J.Footing.start c.new-reader.result c.take_turn.new.node c.args.schema.now c.args.log.now c.args.generation c.args.name.now c.args.state.number c.args.state.level c.args.state.doing
        (text_in c.args.prepared.now).meaning (text_in c.args.prepared.now).kind c.in_ok-asked.field-0 c.in-Done.asked c.new-reader.ensures c.take_turn.ensures.rests c.in-Done.is c.in_ok-asked.ensures.turn
