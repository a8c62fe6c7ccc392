use Rattle.std.proofs.Common.{◌≡◌, ◌++◌}
use Rattle.std.specs.Vec.Iter.{into_iter_items}
use Rattle.net_writes.specs.Net.{standing}
use Rattle.net_writes.proofs.overlay.still_standing.Given as goal

abbrev pub invariant-held : goal.invariant-held
invariant-held l = l.ops ++ standing (into_iter_items l.one-iterator) ≡ standing l.fn.held
