-- How far a run has come: what its nodes did so far, and that what is under way then goes on from what was under way before.
use Rattle.std.specs.Prelude.{ℕ, List, Option}
use Rattle.cluster_steps.specs.declared.events.Event.{Event}
use Rattle.node_clusters.specs.Numbers.{numbers}
use Rattle.node_clusters.specs.Passes.{PassAll}
use Rattle.node_clusters.specs.Places.{votes}
use Rattle.node_clusters.specs.Reigns.{AllReign}
use Rattle.node_clusters.specs.Runs.{Goes}
use Rattle.node_clusters.specs.Turns.{TakeTurns}
use Rattle.node_state.specs.Packets.{SentPacket}
use Rattle.node_state.specs.Stores.{Stored}
use Rattle.quiet_cluster.specs.Deliveries.{Run}

pub record IsUnderWay (vs : List Stored) (q : List SentPacket) (last : Option (List (ℕ × Event))) (us : List Stored) (r : List SentPacket) (next : Option (List (ℕ × Event))) : Type 0 where
  pub passed : PassAll vs us
  pub goes : Goes vs q us r
  pub reigns : AllReign vs us
  pub turns : TakeTurns vs us last next

-- all of it was delivered
pub record HasRun (vs : List Stored) (q : List SentPacket) (last : Option (List (ℕ × Event))) (us : List Stored) (next : Option (List (ℕ × Event))) : Type 0 where
  pub run : Run (votes vs) (numbers q) (votes us)
  pub reigns : AllReign vs us
  pub turns : TakeTurns vs us last next
