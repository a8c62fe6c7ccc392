use Rattle.std.proofs.Common.{◌≡◌, ◌∷◌, length}
use Rattle.tree_walk.specs.Walks.{ascend}
use Rattle.tree_walk.proofs.checks.is_rising.Given as goal

abbrev pub invariant-rising : goal.invariant-rising
invariant-rising l = ascend (l.cell ∷ l.rest) ≡ ascend l.cells

abbrev pub decreases-rising : goal.decreases-rising
decreases-rising l = length l.rest
