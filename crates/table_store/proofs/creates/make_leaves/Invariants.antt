-- the leaves so far
use Rattle.std.proofs.Common.{◌≡◌}
use Rattle.table_store.specs.Begins.{leaf_edits}
use Rattle.table_store.proofs.creates.make_leaves.Given as goal

abbrev pub invariant-leaves : goal.invariant-leaves
invariant-leaves l = record { is : l.edits.items ≡ leaf_edits l.at }
