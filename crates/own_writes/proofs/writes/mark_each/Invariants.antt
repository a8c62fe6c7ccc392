-- the first writes are marked
use Rattle.std.proofs.Common.{◌-◌, length}
use Rattle.own_writes.specs.Kept.{AreKept}
use Rattle.own_writes.proofs.writes.mark_each.Given as goal

abbrev pub invariant-writes : goal.invariant-writes
invariant-writes l = AreKept l.ops l.stamps.items l.marks

abbrev pub decreases-writes : goal.decreases-writes
decreases-writes l = l.most - length l.stamps.items
