-- the versions so far, before those that are left, are all
use Rattle.std.proofs.Common.{◌≡◌, ◌++◌, length}
use Rattle.plan_run.proofs.sources.all_of.Given as goal

abbrev pub invariant-versions : goal.invariant-versions
invariant-versions l = l.all ++ l.rest ≡ l.versions

abbrev pub decreases-versions : goal.decreases-versions
decreases-versions l = length l.rest
