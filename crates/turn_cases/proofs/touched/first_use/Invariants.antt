use Rattle.std.proofs.Common.{◌≡◌, ◌+◌, ◌<◌, ◌^◌, length}
use Rattle.session_language.specs.Touched.{first_use}
use Rattle.turn_cases.specs.Plain.{changes_in, used_of}
use Rattle.turn_cases.proofs.touched.first_use.Given as goal

abbrev pub invariant-entries : goal.invariant-entries
invariant-entries l = (first_use l.tables l.position (changes_in l.rest) (used_of l.genids l.ranges) ≡ first_use l.tables l.fn.position (changes_in l.entries) (used_of l.genids l.ranges)) × (l.position + length l.rest < 2 ^ 64)

abbrev pub decreases-entries : goal.decreases-entries
decreases-entries l = length l.rest
