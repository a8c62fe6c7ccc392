use Rattle.std.proofs.Common.{◌≡◌, length}
use Rattle.table_state.specs.Fits.{fits_columns}
use Rattle.table_state.proofs.fits.are_fitting.Given as goal

abbrev pub invariant-columns : goal.invariant-columns
invariant-columns l = fits_columns l.rest l.values ≡ fits_columns l.columns l.row

abbrev pub decreases-columns : goal.decreases-columns
decreases-columns l = length l.rest
