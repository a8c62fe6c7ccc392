use Rattle.std.proofs.Common.{length}
use Rattle.node_opening.proofs.RestLemmas.{AreRests}
use Rattle.node_opening.proofs.tables.are_same_columns.Given as goal

abbrev pub invariant-columns : goal.invariant-columns
invariant-columns l = AreRests l.rest l.others l.a l.b

abbrev pub decreases-columns : goal.decreases-columns
decreases-columns l = length l.rest
