-- the copy and what is left are the log
use Rattle.std.proofs.Common.{◌≡◌, ◌++◌, length}
use Rattle.store_cases.proofs.given.copy_of.Given as goal

abbrev pub invariant-entries : goal.invariant-entries
invariant-entries l = l.copy ++ l.rest ≡ l.log

abbrev pub decreases-entries : goal.decreases-entries
decreases-entries l = length l.rest
