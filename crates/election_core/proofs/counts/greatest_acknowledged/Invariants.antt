use Rattle.std.proofs.Common.{◌≡◌}
use Rattle.election_core.specs.Counts.{IsReached}
use Rattle.election_core.proofs.Greatest.{Covers}
use mathlib.Core.Logic.{◌⊎◌}
use Rattle.election_core.proofs.counts.greatest_acknowledged.Given as goal

abbrev pub invariant-loop-k : goal.invariant-loop-k
invariant-loop-k l = ((l.best ≡ 0) ⊎ IsReached l.acked l.nodes l.best) × Covers l.acked l.nodes l.k l.best
