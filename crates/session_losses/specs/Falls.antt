-- The falls of nodes in a history, in their order.
--
--   the history    node 2 stops, the store of node 1 fails, node 2 comes up, node 2 stops
--   its falls      2, 1, 2                                            their lines are numbered 1, 2, 3
use Rattle.std.specs.Prelude.{ℕ, List, [], ◌∷◌, ◌++◌}
use Rattle.cluster_consensus.specs.Events.NodeEvent.{Down}
use Rattle.cluster_events.specs.Parts.{ActorEvent}
use Rattle.cluster_events.specs.Parts.ActorEvent.{Node, Stop}

-- the node that goes down by an event, if it is one that goes down
abbrev pub falls_by : ℕ → ActorEvent → List ℕ
falls_by i (Node Down) = i ∷ []
falls_by i Stop = i ∷ []
falls_by i _ = []

-- the nodes that went down, each as often as it did, the first of them first
abbrev pub falls_of : List (ℕ × ActorEvent) → List ℕ
falls_of [] = []
falls_of (x ∷ h) = falls_of h ++ falls_by x.0 x.1
