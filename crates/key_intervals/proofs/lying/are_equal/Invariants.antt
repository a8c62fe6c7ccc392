-- the columns so far are equal to their values
use Rattle.std.proofs.Common.{◌≡◌, length}
use Rattle.session_language.specs.Intervals.{are_equal}
use Rattle.key_intervals.proofs.lying.are_equal.Given as goal

abbrev pub invariant-values : goal.invariant-values
invariant-values l = are_equal l.rest l.left l.row ≡ are_equal l.columns l.values l.row

abbrev pub decreases-values : goal.decreases-values
decreases-values l = length l.left
