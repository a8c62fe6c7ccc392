use Rattle.std.proofs.Common.{◌≡◌, length, map}
use Rattle.cdb_values.specs.Tables.{has_twice}
use Rattle.cdb_values.proofs.schemas.has_column_twice.Given as goal

abbrev pub invariant-columns : goal.invariant-columns
invariant-columns l = has_twice (map (λ c. c.name) l.rest) ≡ has_twice (map (λ c. c.name) l.columns)

abbrev pub decreases-columns : goal.decreases-columns
decreases-columns l = length l.rest
