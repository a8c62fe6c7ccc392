use Rattle.std.proofs.Common.{◌≤◌}
use Rattle.bench_program.proofs.traces.work.Given as goal

abbrev pub invariant-stepping : goal.invariant-stepping
invariant-stepping g l = l.left ≤ l.actor.room

abbrev pub decreases-stepping : goal.decreases-stepping
decreases-stepping g l = l.left
