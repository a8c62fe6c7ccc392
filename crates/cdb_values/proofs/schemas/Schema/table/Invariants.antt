use Rattle.std.proofs.Common.{◌≡◌, ◌+◌, ◌≤◌, length}
use Rattle.cdb_values.specs.Tables.{place_from}
use Rattle.cdb_values.proofs.schemas.Schema.table.Given as goal

abbrev pub invariant-tables : goal.invariant-tables
invariant-tables l = (place_from l.at l.rest l.name ≡ place_from 0 l.self l.name) × (l.at + length l.rest ≡ length l.self) × (length l.self ≤ 64)

abbrev pub decreases-tables : goal.decreases-tables
decreases-tables l = length l.rest
