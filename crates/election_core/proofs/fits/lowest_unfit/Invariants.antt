use Rattle.election_core.proofs.Fitting.{FitTo}
use Rattle.election_core.proofs.fits.lowest_unfit.Given as goal

abbrev pub invariant-loop-below : goal.invariant-loop-below
invariant-loop-below l = FitTo l.nodes l.stores l.below
