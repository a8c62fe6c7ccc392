use Rattle.std.proofs.Common.{◌≡◌, ◌++◌, length, map}
use Rattle.table_read.specs.StandIns.{stand_in}
use Rattle.table_read.proofs.places.stand_ins.Given as goal

abbrev pub invariant-keys : goal.invariant-keys
invariant-keys l = l.found ++ map (stand_in l.columns) l.rest ≡ map (stand_in l.columns) l.keys

abbrev pub decreases-keys : goal.decreases-keys
decreases-keys l = length l.rest
