use Rattle.std.proofs.Common.{◌≡◌, ◌≤◌, ◌+◌, None, length}
use Rattle.node_openings.specs.Judged.{best_from}
use Rattle.node_openings.proofs.tables.best.Given as goal

abbrev pub invariant-stores : goal.invariant-stores
invariant-stores l = (best_from l.node l.best l.rest ≡ best_from 1 None l.found) × (l.node + length l.rest ≤ 8)

abbrev pub decreases-stores : goal.decreases-stores
decreases-stores l = length l.rest
