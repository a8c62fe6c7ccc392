use Rattle.std.proofs.Common.{◌≡◌, ◌≤◌, ◌+◌, length}
use Rattle.node_openings.specs.Judged.{unsound_from}
use Rattle.node_openings.proofs.judges.first_unsound.Given as goal

abbrev pub invariant-stores : goal.invariant-stores
invariant-stores l = (unsound_from l.node l.rest ≡ unsound_from 1 l.found) × (l.node + length l.rest ≤ 8)

abbrev pub decreases-stores : goal.decreases-stores
decreases-stores l = length l.rest
