use Rattle.std.proofs.Common.{length}
use Rattle.node_opening.proofs.RestLemmas.{AreRests}
use Rattle.node_opening.proofs.tables.are_same_keys.Given as goal

abbrev pub invariant-keys : goal.invariant-keys
invariant-keys l = AreRests l.rest l.others l.a l.b

abbrev pub decreases-keys : goal.decreases-keys
decreases-keys l = length l.rest
