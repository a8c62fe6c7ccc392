-- the keys so far list the versions, so all do where the others do
use Rattle.std.proofs.Common.{length}
use Rattle.table_state.specs.Grown.{lists_of}
use Rattle.table_state.specs.Listed.{AllClimb, AreKeyLists}
use Rattle.table_state.proofs.keys.are_key_lists.Given as goal

abbrev pub invariant-keys : goal.invariant-keys
invariant-keys l = record {
  climb : AllClimb l.lists;
  to : AreKeyLists l.rest l.versions (lists_of l.lists) → AreKeyLists l.keys l.versions (lists_of l.trees);
  from : AreKeyLists l.keys l.versions (lists_of l.trees) → AreKeyLists l.rest l.versions (lists_of l.lists);
}

abbrev pub decreases-keys : goal.decreases-keys
decreases-keys l = length l.rest
