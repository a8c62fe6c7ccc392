use Rattle.std.proofs.Common.{◌≡◌, length}
use Rattle.table_state.specs.Fits.{has_long_key}
use Rattle.table_state.proofs.fits.has_long_key.Given as goal

abbrev pub invariant-keys : goal.invariant-keys
invariant-keys l = has_long_key l.rest l.row ≡ has_long_key l.keys l.row

abbrev pub decreases-keys : goal.decreases-keys
decreases-keys l = length l.rest
