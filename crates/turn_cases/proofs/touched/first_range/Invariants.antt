use Rattle.std.proofs.Common.{◌≡◌, [], length}
use Rattle.session_language.specs.Touched.{first_used}
use Rattle.turn_cases.specs.Plain.{used_of}
use Rattle.turn_cases.proofs.touched.first_range.Given as goal

abbrev pub invariant-intervals : goal.invariant-intervals
invariant-intervals l = first_used l.tables l.changes (used_of [] l.rest) ≡ first_used l.tables l.changes (used_of [] l.ranges)

abbrev pub decreases-intervals : goal.decreases-intervals
decreases-intervals l = length l.rest
