use Rattle.std.proofs.Common.{◌≡◌, [], length}
use Rattle.net_writes.specs.Net.{held_after}
use Rattle.net_writes.proofs.net.Given as goal

abbrev pub invariant-writes : goal.invariant-writes
invariant-writes l = held_after l.overlay l.rest ≡ held_after [] l.ops

abbrev pub decreases-writes : goal.decreases-writes
decreases-writes l = length l.rest
