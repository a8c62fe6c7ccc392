-- A begin that is asked for after a fall. The newest event comes first.
use Rattle.std.specs.Prelude.{ℕ, List, ◌∷◌}
use Rattle.cluster_consensus.specs.Events.{NodeEvent}
use Rattle.cluster_consensus.specs.Events.NodeEvent.{Asks, Probe, Confirm}
use Rattle.cluster_consensus.specs.ThreeNodes.{grown_on}

-- session 4 asks, the leader of generation 2 answers, and node 3 confirms
abbrev pub begun : List (ℕ × NodeEvent ℕ)
begun = (3, Confirm 5 2) ∷ (2, Probe 5) ∷ (4, Asks 5) ∷ grown_on
