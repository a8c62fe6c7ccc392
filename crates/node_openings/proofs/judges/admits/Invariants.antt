use Rattle.std.proofs.Common.{◌≡◌, ◌≤◌, ◌+◌, ◌++◌, length}
use Rattle.node_openings.specs.Judged.{admits_of}
use Rattle.node_openings.proofs.judges.admits.Given as goal

abbrev pub invariant-stores : goal.invariant-stores
invariant-stores l = (l.stores.items ++ admits_of l.node l.rest ≡ admits_of 1 l.found) × (l.node + length l.rest ≤ 8)

abbrev pub decreases-stores : goal.decreases-stores
decreases-stores l = length l.rest
