-- A node went down, or came up, while nothing was under way.
use Rattle.std.specs.Prelude.{ℕ, ◌≡◌, ◌-◌, ◌<◌, ◌≤◌, ◌⊎◌, true, false, Option, None, Some, List, [], ◌∷◌, length, slice_set}
use Rattle.cluster_events.specs.Settings.{Setting}
use Rattle.cluster_steps.specs.declared.events.Event.{Event}
use Rattle.core_lists.specs.Lists.{Each}
use Rattle.election_core.specs.declared.messages.Message.TheVariants.{Adopt}
use Rattle.election_core.specs.declared.votes.NodeVote.{NodeVote}
use Rattle.node_clusters.specs.Clusters.{IsCluster}
use Rattle.node_clusters.specs.Numbers.{numbers}
use Rattle.node_clusters.specs.Places.{node_at, votes}
use Rattle.node_clusters.specs.Turns.{TakesTurn, TakeTurns}
use Rattle.node_state.specs.Calls.{IsAsBefore}
use Rattle.node_state.specs.Packets.{SentPacket}
use Rattle.node_state.specs.Stores.{Stored, held_of}
use Rattle.quiet_cluster.specs.Led.{Fits}
use Rattle.quiet_cluster.specs.Packets.{Packet, packet}

-- node i alone is another than before: it is down, or it was, and came up and does not lead
pub record IsChanged (G : Setting) (vs : List Stored) (master : Option ℕ) (i : ℕ) : Type 0 where
  pub was : List Stored
  pub cluster : IsCluster G was [] master
  pub place : (0 < i) × (i ≤ length was)
  pub only : vs ≡ slice_set was (i - 1) (node_at vs i)
  pub node : (votes vs i).node ≡ i
  pub change : ((votes vs i).up ≡ false) ⊎ (((votes was i).up ≡ false) × ((votes vs i).leading ≡ false))

-- a node may take a leader's log over its own
pub record MayFollow (v u : NodeVote) : Type 0 where
  pub covered : v.accepted ≤ v.promised
  pub short : v.accepted ≡ u.accepted → v.length ≤ u.length

-- a leader ships its whole log, and tells what is durable
pub record ShipsWhole (to : ℕ) (u : NodeVote) (ps : List SentPacket) : Type 0 where
  pub rest : List Packet
  pub first : numbers ps ≡ packet to (Adopt u.node u.accepted u.length) u.length ∷ rest
  pub fits : (m g l : ℕ) → (to ≡ m → ⊥) → Each (λ p. Fits p.message p.to m g l) rest

-- so at its turn, to another node
pub record HasShipped (to : ℕ) (ps : List SentPacket) (last : Option (List (ℕ × Event))) (old new : Stored) (next : Option (List (ℕ × Event))) : Type 0 where
  pub ships : ShipsWhole to old.vote ps
  pub turn : TakesTurn last old new next

-- node m alone is another than before: it did nothing, and may know more
pub record KnowsMoreAt (m : ℕ) (vs us : List Stored) : Type 0 where
  pub node : Stored
  pub put : us ≡ slice_set vs (m - 1) node
  pub same : IsAsBefore (held_of (node_at vs m)) (held_of node)
  pub over : node.over ≡ (node_at vs m).over

-- it shipped so
pub record HasShippedAt (m to : ℕ) (ps : List SentPacket) (last : Option (List (ℕ × Event))) (vs us : List Stored) (next : Option (List (ℕ × Event))) : Type 0 where
  pub knows : KnowsMoreAt m vs us
  pub by : HasShipped to ps last (node_at vs m) knows.node next

-- who led leads on, where another node changed that went down, or may follow it
abbrev pub LeadsStill : List Stored → ℕ → Option ℕ → Option ℕ → Type 0
LeadsStill vs i None master = master ≡ None
LeadsStill vs i (Some m) master = (m ≡ i → ⊥) → ((votes vs i).up ≡ true → MayFollow (votes vs i) (votes vs m)) → master ≡ Some m

-- a change was seen
pub record HasSeen (i : ℕ) (last : Option (List (ℕ × Event))) (vs : List Stored) (was : Option ℕ) (us : List Stored) (master : Option ℕ) (next : Option (List (ℕ × Event))) : Type 0 where
  pub turns : TakeTurns vs us last next
  pub leads : LeadsStill vs i was master
