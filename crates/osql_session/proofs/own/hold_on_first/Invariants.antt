-- what is held so far, with the operations that are left, is what is held of all
use Rattle.std.proofs.Common.{◌≡◌, map}
use Rattle.std.specs.Vec.Iter.{into_iter_items}
use Rattle.net_writes.specs.Net.{held_after}
use Rattle.osql_session.specs.Own.{on_first}
use Rattle.osql_session.proofs.own.hold_on_first.Given as goal

abbrev pub invariant-ops : goal.invariant-ops
invariant-ops l = held_after l.overlay (map on_first (into_iter_items l.op-iterator)) ≡ held_after l.fn.overlay (map on_first l.fn.ops)
