use Rattle.std.proofs.Common.{◌≡◌, length}
use Rattle.cdb_values.specs.Changes.{genids_taken}
use Rattle.session_language.specs.Touched.{first_touched}
use Rattle.range_validate.proofs.versions.first_version.Given as goal

abbrev pub invariant-used : goal.invariant-used
invariant-used l = first_touched (genids_taken l.changes) l.rest ≡ first_touched (genids_taken l.changes) l.used

abbrev pub decreases-used : goal.decreases-used
decreases-used l = length l.rest
