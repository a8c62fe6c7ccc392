-- what was added, with the rest, is what all of them add
use Rattle.std.proofs.Common.{◌≡◌, ◌++◌, length}
use Rattle.phys_log.specs.Logs.{IsLog}
use Rattle.store_log.proofs.held_logs.append_all.Given as goal

abbrev pub invariant-entries : goal.invariant-entries
invariant-entries l = record {
  whole : l.log ++ l.rest ≡ l.fn.log ++ l.fn.entries;
  logged : ∥ IsLog (l.log ++ l.rest) ∥₁;
}

abbrev pub decreases-entries : goal.decreases-entries
decreases-entries l = length l.rest
