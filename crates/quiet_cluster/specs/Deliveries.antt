-- What one delivery does to a cluster, by numbers alone, and a queue that is run until it is empty.
--
-- Nodes are a function from their numbers; who has no place is down. Whatever is delivered, a node may fall at it instead: then it
-- sends nothing, and nothing is said of its numbers but that it is down.
use Rattle.std.specs.Prelude.{ℕ, ◌≡◌, ◌+◌, ◌<◌, ◌≤◌, true, false, List, [], ◌∷◌, ◌++◌}
use mathlib.Core.Logic.{◌⊎◌}
use Rattle.core_lists.specs.Lists.{In}
use Rattle.election_core.specs.Allowed.{AllowsExactly, IsMost}
use Rattle.election_core.specs.Counted.{acted, counted}
use Rattle.election_core.specs.Senders.{sender_of}
use Rattle.election_core.specs.declared.messages.Action.{Action}
use Rattle.election_core.specs.declared.messages.Action.TheVariants as action
use Rattle.election_core.specs.declared.messages.Message.{Message}
use Rattle.election_core.specs.declared.messages.Message.TheVariants.{Adopt, Ship}
use Rattle.election_core.specs.declared.votes.NodeVote.{NodeVote}
use Rattle.quiet_cluster.specs.Packets.{Packet, packets_of}

-- the length, and the generation, of the log that a message ships
abbrev pub shipped_length : Message → ℕ
shipped_length (Adopt f g l) = l
shipped_length (Ship f g l) = l
shipped_length _ = 0

abbrev pub shipped_in : Message → ℕ
shipped_in (Adopt f g l) = g
shipped_in (Ship f g l) = g
shipped_in _ = 0

-- so many entries, the last ones of what the message ships, join the node's log: none is missing between them, and of a generation
-- that it did not accept they are the whole log
pub record Joins (v : NodeVote) (m : Message) (e : ℕ) : Type 0 where
  pub reaches : shipped_length m ≤ v.length + e
  pub whole : v.accepted < shipped_in m → e ≡ shipped_length m

-- a message is dropped where its entries do not join, else the node does what it decides about it
abbrev pub Judges : NodeVote → Message → ℕ → Action → Type 0
Judges v m e a = (Joins v m e × AllowsExactly v m a) ⊎ ((Joins v m e → ⊥) × (a ≡ action.Nothing))

-- the action that is done in the end: what is shipped is taken to its end
abbrev pub through : Message → Action → Action
through m (action.Take g l) = action.Take g (shipped_length m)
through m a = a

-- a node that is up takes a message in with so many entries: its numbers are u then, and it sends s
pub record Answers (v : NodeVote) (m : Message) (e : ℕ) (u : NodeVote) (s : List Packet) : Type 0 where
  pub action : Action
  pub judged : Judges v m e action
  pub most : IsMost v m action
  pub changes : u ≡ acted (counted v m) (through m action)
  pub sends : s ≡ packets_of u (through m action) (sender_of m)

-- the node is down afterwards, and was or fell; or it was up, and took the packet in
abbrev pub Outcome : NodeVote → Packet → NodeVote → List Packet → Type 0
Outcome v p u s = ((u.up ≡ false) × (s ≡ [])) ⊎ ((v.up ≡ true) × Answers v p.message p.entries u s)

-- the numbers of all nodes but one stay
abbrev pub OnlyAt : ℕ → (ℕ → NodeVote) → (ℕ → NodeVote) → Type 0
OnlyAt i at to = (k : ℕ) → (k ≡ i → ⊥) → to k ≡ at k

-- one packet is delivered, and s is sent
pub record Delivered (at to : ℕ → NodeVote) (p : Packet) (s : List Packet) : Type 0 where
  pub others : OnlyAt p.to at to
  pub outcome : Outcome (at p.to) p (to p.to) s

-- the same packets stand in both, in any order, each as often as one likes
abbrev pub HaveSame : List Packet → List Packet → Type 0
HaveSame q r = ((p : Packet) → In p q → In p r) × ((p : Packet) → In p r → In p q)

-- packets are delivered, the first one first, and what is sent stands behind the others, until none is left
pub data Run : (ℕ → NodeVote) → List Packet → (ℕ → NodeVote) → Type 0 where
  rest : {at : ℕ → NodeVote} → Run at [] at
  step : {at mid to : ℕ → NodeVote} {p : Packet} {ps : List Packet} (s : List Packet) → Delivered at mid p s → Run mid (ps ++ s) to → Run at (p ∷ ps) to
