use Rattle.std.proofs.Common.{◌≡◌, ◌++◌, length}
use Rattle.turn_cases.proofs.rows.copied_versions.Given as goal

abbrev pub invariant-versions : goal.invariant-versions
invariant-versions l = l.copies ++ l.rest ≡ l.versions

abbrev pub decreases-versions : goal.decreases-versions
decreases-versions l = length l.rest
