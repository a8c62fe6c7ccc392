use Rattle.std.proofs.Common.{◌≡◌, ◌≤◌}
use Rattle.core_lists.specs.Majorities.{count}
use Rattle.election_core.specs.Counts.{reaches}
use Rattle.election_core.proofs.counts.acks.Given as goal

abbrev pub invariant-loop-k : goal.invariant-loop-k
invariant-loop-k l = (l.total ≡ count l.k (λ j. reaches l.acked l.length j)) × (l.total ≤ l.k)
