use Rattle.std.proofs.Common.{◌≡◌, length}
use Rattle.session_language.specs.Touched.{first_used}
use Rattle.turn_cases.specs.Plain.{used_of}
use Rattle.turn_cases.proofs.touched.first_used.Given as goal

abbrev pub invariant-items : goal.invariant-items
invariant-items l = first_used l.tables l.changes (used_of l.rest l.ranges) ≡ first_used l.tables l.changes (used_of l.genids l.ranges)

abbrev pub decreases-items : goal.decreases-items
decreases-items l = length l.rest
