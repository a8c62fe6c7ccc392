-- what is held so far, with the operations that are left, is what is held of all
use Rattle.std.proofs.Common.{◌≡◌, length}
use Rattle.net_writes.specs.Net.{held_after}
use Rattle.osql_session.proofs.laying.hold_copies.Given as goal

abbrev pub invariant-ops : goal.invariant-ops
invariant-ops l = held_after l.overlay l.rest ≡ held_after l.fn.overlay l.ops

abbrev pub decreases-ops : goal.decreases-ops
decreases-ops l = length l.rest
