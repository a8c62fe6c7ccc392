-- the trees so far, with those of the rest, are all
use Rattle.std.proofs.Common.{◌≡◌, ◌+◌, ◌^◌, ◌<◌, length}
use Rattle.table_store.specs.Plans.{plan_from}
use Rattle.table_state.proofs.states.count_trees.Given as goal

abbrev pub invariant-tables : goal.invariant-tables
invariant-tables l = record {
  few : l.trees < 2 ^ 62;
  whole : l.trees + length (plan_from 0 l.rest) ≡ length (plan_from 0 l.fn.tables);
}

abbrev pub decreases-tables : goal.decreases-tables
decreases-tables l = length l.rest
