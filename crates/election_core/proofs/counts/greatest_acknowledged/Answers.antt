use Rattle.election_core.proofs.Greatest.{covers_all, covers_next, raised_keeps}
use Rattle.election_core.proofs.counts.greatest_acknowledged.Goals as goal

pub loop-k-preserved : goal.loop-k-preserved
loop-k-preserved c = (
  raised_keeps c.args.acked.now c.args.nodes c.loop-k.best c.raised-best.result c.loop-k.invariant.0 c.raised-best.ensures.reached,
  covers_next c.args.acked.now c.args.nodes c.loop-k.k c.from.result c.loop-k.best c.raised-best.result c.from.ensures c.loop-k.invariant.1 c.raised-best.ensures.kept c.raised-best.ensures.covers,
)

pub returns : goal.returns
returns c = covers_all c.args.acked.now c.args.nodes c.loop-k.k c.loop-k.best c.loop-k-test.false c.loop-k.auto.k-end c.loop-k.invariant.0 c.loop-k.invariant.1
