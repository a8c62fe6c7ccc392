use Rattle.std.proofs.Common.{◌≡◌, length}
use Rattle.store_log.specs.Firsts.{agrees}
use Rattle.store_log.proofs.readings.agree.Given as goal

abbrev pub invariant-both : goal.invariant-both
invariant-both l = agrees l.first l.second ≡ agrees l.left l.right

abbrev pub decreases-both : goal.decreases-both
decreases-both l = length l.first
