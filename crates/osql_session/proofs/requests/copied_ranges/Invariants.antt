-- the copies so far, before those that are left, are all
use Rattle.std.proofs.Common.{◌≡◌, ◌++◌, length}
use Rattle.osql_session.proofs.requests.copied_ranges.Given as goal

abbrev pub invariant-copies : goal.invariant-copies
invariant-copies l = l.copies ++ l.rest ≡ l.ranges

abbrev pub decreases-copies : goal.decreases-copies
decreases-copies l = length l.rest
