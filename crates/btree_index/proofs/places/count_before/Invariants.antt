-- the place of the key is not below `low` and not above `high`
use Rattle.std.proofs.Common.{◌≤◌, ◌-◌, length}
use Rattle.btree_index.specs.Pairs.{place_in}
use Rattle.btree_index.specs.Trees.{Ascends}
use Rattle.btree_index.proofs.places.count_before.Given as goal

abbrev pub invariant-halving : goal.invariant-halving
invariant-halving l = record {
  ordered : l.low ≤ l.high;
  most : l.high ≤ length l.page.cells;
  from : Ascends l.page.cells → l.low ≤ place_in l.key l.page.cells;
  to : place_in l.key l.page.cells ≤ l.high;
}

abbrev pub decreases-halving : goal.decreases-halving
decreases-halving l = l.high - l.low
