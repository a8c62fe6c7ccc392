-- the copies so far, before those that are left, are all
use Rattle.std.proofs.Common.{◌≡◌, ◌++◌, length}
use Rattle.osql_session.proofs.requests.copied_ops.Given as goal

abbrev pub invariant-ops : goal.invariant-ops
invariant-ops l = l.copies ++ l.rest ≡ l.ops

abbrev pub decreases-ops : goal.decreases-ops
decreases-ops l = length l.rest
