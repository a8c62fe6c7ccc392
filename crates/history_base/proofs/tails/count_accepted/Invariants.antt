use Rattle.std.proofs.Common.{◌≡◌, ◌+◌, ◌≤◌, length}
use Rattle.history_base.specs.Tail.{count_accepted as count_of}
use Rattle.history_base.proofs.tails.count_accepted.Given as goal

abbrev pub invariant-nodes : goal.invariant-nodes
invariant-nodes l = (l.count + count_of l.generation l.rest ≡ count_of l.generation l.all) × (l.count + length l.rest ≤ length l.all)

abbrev pub decreases-nodes : goal.decreases-nodes
decreases-nodes l = length l.rest
