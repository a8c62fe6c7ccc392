-- the operations before those that are left fit
use Rattle.std.proofs.Common.{length}
use Rattle.std.specs.List.{AllByRecursion}
use Rattle.table_edits.specs.Fits.{WritesFitting}
use Rattle.test_cases.proofs.fits.all_fit.Given as goal

abbrev pub invariant-ops : goal.invariant-ops
invariant-ops l = AllByRecursion (WritesFitting l.schema) l.rest → AllByRecursion (WritesFitting l.schema) l.ops

abbrev pub decreases-ops : goal.decreases-ops
decreases-ops l = length l.rest
