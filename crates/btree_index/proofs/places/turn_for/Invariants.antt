-- between `low` and `high`, what is sought is what was sought at first
use Rattle.std.proofs.Common.{◌≤◌, ◌-◌, length, drop}
use Rattle.btree_index.proofs.ChoiceLemmas.{IsHalving}
use Rattle.btree_index.proofs.places.turn_for.Given as goal

abbrev pub invariant-halving : goal.invariant-halving
invariant-halving l = record {
  ordered : l.low ≤ l.high;
  most : l.high ≤ length (drop 1 l.page.cells);
  sought : IsHalving l.key (drop 1 l.page.cells) l.low l.high;
}

abbrev pub decreases-halving : goal.decreases-halving
decreases-halving l = l.high - l.low
