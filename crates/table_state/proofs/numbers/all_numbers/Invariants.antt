use Rattle.std.proofs.Common.{◌≡◌, ◌++◌, length}
use Rattle.table_store.specs.Forests.{joined}
use Rattle.table_state.specs.Grown.{owns_of}
use Rattle.table_state.proofs.numbers.all_numbers.Given as goal

abbrev pub invariant-adding : goal.invariant-adding
invariant-adding l = l.numbers.items ++ joined (owns_of l.rest) ≡ joined (owns_of l.trees)

abbrev pub decreases-adding : goal.decreases-adding
decreases-adding l = length l.rest
