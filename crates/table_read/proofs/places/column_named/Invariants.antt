use Rattle.std.proofs.Common.{◌≡◌, length, slice_get}
use Rattle.table_read.specs.Tables.{place_among}
use Rattle.table_read.proofs.places.column_named.Given as goal

abbrev pub invariant-columns : goal.invariant-columns
invariant-columns l = slice_get l.rest (place_among l.rest l.name) ≡ slice_get l.columns (place_among l.columns l.name)

abbrev pub decreases-columns : goal.decreases-columns
decreases-columns l = length l.rest
