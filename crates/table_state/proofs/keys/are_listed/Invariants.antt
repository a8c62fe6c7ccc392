-- the versions so far are listed, so all are where the others are
use Rattle.std.proofs.Common.{length, map, Some}
use Rattle.std.specs.List.{AllByRecursion}
use Rattle.btree_index.specs.Trees.{pair_of}
use Rattle.table_store.specs.Listings.{IsAmong, pair_of_version}
use Rattle.table_state.proofs.keys.are_listed.Given as goal

abbrev pub invariant-versions : goal.invariant-versions
invariant-versions l = record {
  to : AllByRecursion (λ v. IsAmong (pair_of_version (Some l.key) v) (map pair_of l.cells)) l.rest
      → AllByRecursion (λ v. IsAmong (pair_of_version (Some l.key) v) (map pair_of l.cells)) l.versions;
  from : AllByRecursion (λ v. IsAmong (pair_of_version (Some l.key) v) (map pair_of l.cells)) l.versions
      → AllByRecursion (λ v. IsAmong (pair_of_version (Some l.key) v) (map pair_of l.cells)) l.rest;
}

abbrev pub decreases-versions : goal.decreases-versions
decreases-versions l = length l.rest
