use Rattle.std.proofs.Common.{◌≡◌, length}
use Rattle.cdb_values.specs.Changes.{genids_taken}
use Rattle.session_language.specs.Touched.{is_touched}
use Rattle.turn_cases.proofs.touched.is_touched.Given as goal

abbrev pub invariant-changes : goal.invariant-changes
invariant-changes l = is_touched (genids_taken l.rest) l.item ≡ is_touched (genids_taken l.changes) l.item

abbrev pub decreases-changes : goal.decreases-changes
decreases-changes l = length l.rest
