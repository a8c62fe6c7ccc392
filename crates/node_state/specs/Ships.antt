-- A leader ships what it has once more, to a node that did not get it: its whole log, and the length that it told last as durable,
-- where it told one since it leads.
use Rattle.std.specs.Prelude.{ℕ, ◌≡◌, Bool, true, false, cond, List, [], ◌∷◌, length}
use Rattle.cluster_steps.specs.declared.events.Event.{Event}
use Rattle.cluster_steps.specs.declared.events.Event.TheVariants as event
use Rattle.election_core.specs.declared.messages.Message.TheVariants.{Adopt, Durable}
use Rattle.election_core.specs.declared.votes.NodeVote.{NodeVote}
use Rattle.phys_log.specs.declared.entries.Entry.{Entry}
use Rattle.node_state.specs.Calls.{IsAsBefore}
use Rattle.node_state.specs.Nodes.{Held, events_of}
use Rattle.node_state.specs.Packets.{SentPacket, packet}

-- whether a node learned a length since it leads, behind an event more, and by its events, the oldest first
abbrev pub learned_after : Bool → Event → Bool
learned_after b (event.Lead generation) = false
learned_after b (event.Learn l) = true
learned_after b _ = b

abbrev pub learned_behind : Bool → List Event → Bool
learned_behind b [] = b
learned_behind b (e ∷ es) = learned_behind (learned_after b e) es

abbrev pub learned_by : List Event → Bool
learned_by es = learned_behind false es

-- what a leader with these numbers and this log ships to a node
abbrev pub again_packets : NodeVote → Bool → ℕ → List Entry → List SentPacket
again_packets u learned to log = packet to (Adopt u.node u.accepted (length log)) log ∷ cond learned (packet to (Durable u.node u.accepted u.durable) [] ∷ []) []

-- a node that is up and leads
abbrev pub Leads : NodeVote → Type 0
Leads v = (v.up ≡ true) × (v.leading ≡ true)

-- it ships so where it leads, else nothing
pub record ShipsAgain (to : ℕ) (ps : List SentPacket) (old new : Held) : Type 0 where
  pub same : IsAsBefore old new
  pub leads : Leads old.vote → ps ≡ again_packets old.vote (learned_by (events_of old.actor.made)) to old.entries
  pub follows : (Leads old.vote → ⊥) → ps ≡ []
