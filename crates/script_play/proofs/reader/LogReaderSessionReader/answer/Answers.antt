use Rattle.std.proofs.Common.{refl, subst, sym}
use Rattle.script_play.proofs.TurnedLemmas.{reads_stand}
use Rattle.script_play.specs.Reading.{CanRead, Reader}
use Rattle.script_play.specs.RunViews.{world}
use Rattle.undo_snapshot.proofs.PositionLemmas.{served_on}
use Rattle.script_play.proofs.reader.LogReaderSessionReader.answer.Goals as goal

pub answer_text-requires-clause-stands : goal.answer_text-requires-clause-stands
answer_text-requires-clause-stands g c = (
  _,
  reads_stand g.J.Footing.start c.self.inside.schema.now c.self.inside.log.now c.args.session.now.begin
      (subst (λ (n : Reader). CanRead g.J.Footing.start n.tables n.log c.args.session.now.begin) (sym c.self.view_is) c.requires.readable),
)

pub returns-clause-answered : goal.returns-clause-answered
returns-clause-answered g c =
    c.in_ok-replies.ensures.answered (world g.J.Footing.start c.self.inside.schema.now c.self.inside.log.now) refl
    (reads_stand g.J.Footing.start c.self.inside.schema.now c.self.inside.log.now c.args.session.now.begin
    (subst (λ (n : Reader). CanRead g.J.Footing.start n.tables n.log c.args.session.now.begin) (sym c.self.view_is) c.requires.readable))

pub invariant_of-self : goal.invariant_of-self
invariant_of-self g c = (
  c.answer_text.ensures.undone,
  served_on c.self.inside.log.now g.J.Footing.undone c.self.inside.undone c.answer_text.new.undone c.self.invariant.1 c.answer_text.ensures.served,
)

pub invariant_of-self-2 : goal.invariant_of-self-2
invariant_of-self-2 g c = (
  c.answer_text.ensures.undone,
  served_on c.self.inside.log.now g.J.Footing.undone c.self.inside.undone c.answer_text.new.undone c.self.invariant.1 c.answer_text.ensures.served,
)
