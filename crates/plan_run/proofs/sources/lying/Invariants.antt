-- the versions so far, before those of the interval among the ones that are left, are all of it
use Rattle.std.proofs.Common.{◌≡◌, ◌++◌, length}
use Rattle.query_plan.specs.Views.{interval_in}
use Rattle.plan_run.specs.Sources.{lying_in}
use Rattle.plan_run.proofs.sources.lying.Given as goal

abbrev pub invariant-versions : goal.invariant-versions
invariant-versions l = l.found ++ lying_in l.tables (interval_in l.interval) l.rest ≡ lying_in l.tables (interval_in l.interval) l.versions

abbrev pub decreases-versions : goal.decreases-versions
decreases-versions l = length l.rest
