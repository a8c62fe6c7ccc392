-- what was added, with what the cells that are left have between, is what all have; and the place of the low key is passed
use Rattle.std.proofs.Common.{◌≡◌, ◌≤◌, ◌++◌, map, drop}
use Rattle.std.specs.Prelude.{option_copied}
use Rattle.btree_index.specs.Pairs.{between, place_in}
use Rattle.btree_index.specs.Trees.{Ascends, pair_of}
use Rattle.btree_index.proofs.scans.add_between.Given as goal

abbrev pub invariant-adding : goal.invariant-adding
invariant-adding l = record {
  from : Ascends l.page.cells → place_in l.low l.page.cells ≤ l.at;
  pairs : Ascends l.page.cells → l.found.items ++ between l.low (option_copied l.high) (map pair_of (drop l.at l.page.cells))
      ≡ l.fn.found.items ++ between l.low (option_copied l.high) (map pair_of l.page.cells);
}
