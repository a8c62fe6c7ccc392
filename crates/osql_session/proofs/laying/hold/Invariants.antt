-- what is held so far, with the operations that are left, is what is held of all
use Rattle.std.proofs.Common.{◌≡◌}
use Rattle.std.specs.Vec.Iter.{into_iter_items}
use Rattle.net_writes.specs.Net.{held_after}
use Rattle.osql_session.proofs.laying.hold.Given as goal

abbrev pub invariant-ops : goal.invariant-ops
invariant-ops l = held_after l.overlay (into_iter_items l.op-iterator) ≡ held_after l.fn.overlay l.fn.ops
