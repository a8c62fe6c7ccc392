use Rattle.std.proofs.Common.{◌≤◌}
use Rattle.actor_trace_tests.proofs.tests.counting.work.Given as goal

abbrev pub invariant-counting : goal.invariant-counting
invariant-counting g l = l.left ≤ l.actor.room

abbrev pub decreases-counting : goal.decreases-counting
decreases-counting g l = l.left
