use Rattle.std.proofs.Common.{◌≡◌, ◌≤◌}
use Rattle.core_lists.specs.Majorities.{count}
use Rattle.election_core.specs.Fits.{has_promised}
use Rattle.election_core.proofs.fits.promises.Given as goal

abbrev pub invariant-loop-k : goal.invariant-loop-k
invariant-loop-k l = (l.total ≡ count l.k (λ j. has_promised l.stores l.generation j)) × (l.total ≤ l.k)
