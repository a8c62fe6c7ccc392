use Rattle.std.proofs.Common.{length}
use Rattle.frame_code.specs.Spelled.{IsChange}
use Rattle.entry_spelling.proofs.RestLemmas.{IsRest}
use Rattle.entry_spelling.proofs.changes.are_changes.Given as goal

abbrev pub invariant-changes : goal.invariant-changes
invariant-changes l = IsRest IsChange l.rest l.changes

abbrev pub decreases-changes : goal.decreases-changes
decreases-changes l = length l.rest
