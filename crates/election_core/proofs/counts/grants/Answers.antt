use Rattle.std.proofs.Common.{arith}
use Rattle.election_core.proofs.Counting.{bit_yes, bit_no}
use Rattle.election_core.proofs.counts.grants.Goals as goal
use Rattle.election_core.proofs.counts.grants.Goals.{then-granted-k-eq1, else-granted-k-eq1}

pub loop-k-preserved : goal.loop-k-preserved
loop-k-preserved c =
    elim c.if-granted-k-eq1.branch [
      | then-granted-k-eq1 w ↦ (bit_yes c.args.granted c.loop-k.k c.loop-k.total c.if-granted-k-eq1.total c.loop-k.invariant.0 w.if-granted-k-eq1.true w.total-is, omega arith)
      | else-granted-k-eq1 w ↦ (bit_no c.args.granted c.loop-k.k c.loop-k.total c.if-granted-k-eq1.total c.loop-k.invariant.0 w.if-granted-k-eq1.false w.total-is, omega arith)
    ]
