use Rattle.std.proofs.Common.{length}
use Rattle.node_log.specs.Logged.{AreSpelled}
use Rattle.node_state.proofs.spellings.are_spelled.Given as goal

abbrev pub invariant-entries : goal.invariant-entries
invariant-entries l = AreSpelled l.rest → AreSpelled l.entries

abbrev pub decreases-entries : goal.decreases-entries
decreases-entries l = length l.rest
