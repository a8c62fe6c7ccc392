use Rattle.std.proofs.Common.{◌≤◌}
use Rattle.actor_trace_tests.proofs.tests.turning.work.Given as goal

abbrev pub invariant-working : goal.invariant-working
invariant-working g l = l.left ≤ l.actor.room

abbrev pub decreases-working : goal.decreases-working
decreases-working g l = l.left
