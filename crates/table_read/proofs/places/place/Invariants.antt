use Rattle.std.proofs.Common.{◌≡◌, ◌+◌, length}
use Rattle.table_read.specs.Tables.{place_among}
use Rattle.table_read.proofs.places.place.Given as goal

abbrev pub invariant-columns : goal.invariant-columns
invariant-columns l = (l.at + place_among l.rest l.name ≡ place_among l.columns l.name) × (l.at + length l.rest ≡ length l.columns)

abbrev pub decreases-columns : goal.decreases-columns
decreases-columns l = length l.rest
