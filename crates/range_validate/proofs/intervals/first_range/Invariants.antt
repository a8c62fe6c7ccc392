use Rattle.std.proofs.Common.{◌≡◌, length}
use Rattle.range_validate.specs.Touches.{first_range}
use Rattle.range_validate.proofs.intervals.first_range.Given as goal

abbrev pub invariant-intervals : goal.invariant-intervals
invariant-intervals l = first_range l.tables l.changes l.rest ≡ first_range l.tables l.changes l.ranges

abbrev pub decreases-intervals : goal.decreases-intervals
decreases-intervals l = length l.rest
