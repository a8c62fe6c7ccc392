use Rattle.std.proofs.Common.{◌≡◌, length, map}
use Rattle.cdb_values.specs.Tables.{has_twice}
use Rattle.cdb_values.proofs.schemas.has_key_twice.Given as goal

abbrev pub invariant-keys : goal.invariant-keys
invariant-keys l = has_twice (map (λ k. k.name) l.rest) ≡ has_twice (map (λ k. k.name) l.keys)

abbrev pub decreases-keys : goal.decreases-keys
decreases-keys l = length l.rest
