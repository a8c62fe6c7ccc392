use Rattle.std.proofs.Common.{◌≡◌, ◌≤◌, ◌+◌, length}
use Rattle.node_openings.specs.Judged.{bad_from}
use Rattle.node_openings.proofs.judges.first_bad.Given as goal

abbrev pub invariant-stores : goal.invariant-stores
invariant-stores l = (bad_from l.node l.rest ≡ bad_from 1 l.found) × (l.node + length l.rest ≤ 8)

abbrev pub decreases-stores : goal.decreases-stores
decreases-stores l = length l.rest
