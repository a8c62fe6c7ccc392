use Rattle.std.proofs.Common.{◌≡◌, length}
use Rattle.phys_log.specs.Logs.{last_lsn_of}
use Rattle.phys_log.proofs.entries.last_lsn.Given as goal

abbrev pub invariant-back : goal.invariant-back
invariant-back l = last_lsn_of l.rest ≡ last_lsn_of l.entries

abbrev pub decreases-back : goal.decreases-back
decreases-back l = length l.rest
