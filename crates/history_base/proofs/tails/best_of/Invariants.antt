use Rattle.std.proofs.Common.{◌≡◌, ◌+◌, ◌≤◌, length}
use Rattle.history_base.specs.Tail.{best_from, best_of as best_node}
use Rattle.history_base.proofs.tails.best_of.Given as goal

abbrev pub invariant-nodes : goal.invariant-nodes
invariant-nodes l = (best_from l.best l.node l.rest ≡ best_node l.all) × (l.node + length l.rest ≤ length l.all + 1)

abbrev pub decreases-nodes : goal.decreases-nodes
decreases-nodes l = length l.rest
