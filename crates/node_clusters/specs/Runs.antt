-- What is under way goes on: whatever a run leaves of what is under way then, it leaves of what was under way before.
use Rattle.std.specs.Prelude.{ℕ, List}
use Rattle.election_core.specs.declared.votes.NodeVote.{NodeVote}
use Rattle.node_clusters.specs.Numbers.{numbers}
use Rattle.node_clusters.specs.Places.{votes}
use Rattle.node_state.specs.Packets.{SentPacket}
use Rattle.node_state.specs.Stores.{Stored}
use Rattle.quiet_cluster.specs.Deliveries.{Run}

pub record Goes (vs : List Stored) (q : List SentPacket) (us : List Stored) (r : List SentPacket) : Type 0 where
  pub on : (to : ℕ → NodeVote) → Run (votes us) (numbers r) to → Run (votes vs) (numbers q) to
