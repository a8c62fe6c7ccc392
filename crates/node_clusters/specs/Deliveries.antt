-- A packet is delivered: to its node, and among all nodes.
use Rattle.std.specs.Prelude.{ℕ, ◌≡◌, ◌<◌, true, Option, List}
use Rattle.cluster_steps.specs.declared.events.Event.{Event}
use Rattle.node_clusters.specs.Numbers.{by_numbers, numbers}
use Rattle.node_clusters.specs.Places.{votes}
use Rattle.node_clusters.specs.Reigns.{AllReign, Reigns}
use Rattle.node_clusters.specs.Turns.{MayTakeTurn, TakeTurns}
use Rattle.node_state.specs.Packets.{SentPacket}
use Rattle.node_state.specs.Stores.{Stored}
use Rattle.quiet_cluster.specs.Deliveries.{Delivered, Outcome}
use Rattle.quiet_cluster.specs.Loads.{load, weight}

-- a node takes it in, and sends this: the outcome is what its numbers tell, and weighs less than the packet
pub record IsTakenIn (p : SentPacket) (s : List SentPacket) (last : Option (List (ℕ × Event))) (old new : Stored) (next : Option (List (ℕ × Event))) : Type 0 where
  pub outcome : Outcome old.vote (by_numbers p) new.vote (numbers s)
  pub light : load (numbers s) < weight p.message
  pub reigns : new.vote.up ≡ true → Reigns old new
  pub turn : MayTakeTurn last old new next

-- the node to which it goes does, and no other
pub record IsHanded (p : SentPacket) (s : List SentPacket) (last : Option (List (ℕ × Event))) (vs us : List Stored) (next : Option (List (ℕ × Event))) : Type 0 where
  pub delivered : Delivered (votes vs) (votes us) (by_numbers p) (numbers s)
  pub light : load (numbers s) < weight p.message
  pub reigns : AllReign vs us
  pub turns : TakeTurns vs us last next
