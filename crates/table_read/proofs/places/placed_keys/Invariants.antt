use Rattle.std.proofs.Common.{◌≡◌, ◌++◌, length, map}
use Rattle.table_read.specs.Tables.{key_over}
use Rattle.table_read.proofs.places.placed_keys.Given as goal

abbrev pub invariant-keys : goal.invariant-keys
invariant-keys l = l.found ++ map (key_over l.columns) l.rest ≡ map (key_over l.columns) l.keys

abbrev pub decreases-keys : goal.decreases-keys
decreases-keys l = length l.rest
