-- the numbers so far are there
use Rattle.std.proofs.Common.{ℕ, ◌<◌}
use Rattle.page_workspace.specs.Spare.{IsIn}
use Rattle.table_state_tests.proofs.found.numbers_below.Given as goal

abbrev pub invariant-counting : goal.invariant-counting
invariant-counting l = (n : ℕ) → n < l.number → IsIn n l.numbers.items
