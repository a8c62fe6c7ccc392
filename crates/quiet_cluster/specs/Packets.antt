-- Packets by numbers: a message under way to a node, with how many entries of a log it carries; and which packets a node sends.
use Rattle.std.specs.Prelude.{ℕ, zero, suc, ◌==◌, cond, List, [], ◌∷◌, ◌++◌}
use Rattle.election_core.specs.declared.messages.Action.{Action}
use Rattle.election_core.specs.declared.messages.Action.TheVariants as action
use Rattle.election_core.specs.declared.messages.Message.{Message}
use Rattle.election_core.specs.declared.messages.Message.TheVariants.{Vote, Granted, Adopt, Ship, Ack, Durable}
use Rattle.election_core.specs.declared.votes.NodeVote.{NodeVote}

pub record Packet : Type 0 where
  pub to : ℕ
  pub message : Message
  pub entries : ℕ

abbrev pub packet : ℕ → Message → ℕ → Packet
packet to m e = record { to = to; message = m; entries = e }

-- to each of the nodes from 1 to k but one
abbrev pub others : ℕ → ℕ → Message → ℕ → List Packet
others zero node m e = []
others (suc k) node m e = others k node m e ++ cond (suc k == node) [] (packet (suc k) m e ∷ [])

-- what a node sends after an action, by its numbers then; f is who sent the message that it answers
abbrev pub packets_of : NodeVote → Action → ℕ → List Packet
packets_of u action.Nothing f = []
packets_of u (action.Promise g to) f = packet to (Granted u.node g to) 0 ∷ []
packets_of u (action.Lead g) f = others u.nodes u.node (Adopt u.node g u.length) u.length ++ packet u.node (Ack u.node g u.length) 0 ∷ []
packets_of u (action.Take g l) f = packet f (Ack u.node g l) 0 ∷ []
packets_of u (action.Know d) f = cond u.leading (others u.nodes u.node (Durable u.node u.accepted d) 0) []
packets_of u (action.Answer m to) f = packet to m 0 ∷ []

-- where it stands in a generation: it asks the others for their votes, and has its own
abbrev pub standing_packets : NodeVote → ℕ → List Packet
standing_packets u g = others u.nodes u.node (Vote u.node g u.accepted u.length) 0 ++ packet u.node (Granted u.node g u.node) 0 ∷ []

-- where it appended so many entries, it ships them to the others, and acknowledges its own log
abbrev pub appending_packets : NodeVote → ℕ → List Packet
appending_packets u e = others u.nodes u.node (Ship u.node u.accepted u.length) e ++ packet u.node (Ack u.node u.accepted u.length) 0 ∷ []
