use Rattle.std.proofs.Common.{◌≡◌, ◌+◌, ◌<◌, ◌^◌, length, drop}
use Rattle.cdb_values.specs.Good.{first_broken}
use Rattle.turn_cases.proofs.broken.first_broken.Given as goal

abbrev pub invariant-tables : goal.invariant-tables
invariant-tables l = (first_broken (drop l.table l.schema) l.rest ≡ first_broken l.schema l.tables) × (l.table + length l.rest < 2 ^ 16)

abbrev pub decreases-tables : goal.decreases-tables
decreases-tables l = length l.rest
