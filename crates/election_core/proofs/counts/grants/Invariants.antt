use Rattle.std.proofs.Common.{◌≡◌, ◌≤◌}
use Rattle.core_lists.specs.Majorities.{count}
use Rattle.election_core.specs.Counts.{has_bit}
use Rattle.election_core.proofs.counts.grants.Given as goal

abbrev pub invariant-loop-k : goal.invariant-loop-k
invariant-loop-k l = (l.total ≡ count l.k (λ j. has_bit l.granted j)) × (l.total ≤ l.k)
