-- Packets: messages that were told, each to a node, with entries of the log that it tells.
use Rattle.std.specs.Prelude.{ℕ, zero, suc, ◌≡◌, ◌+◌, ◌<◌, ◌≤◌, ◌==◌, cond, List, [], ◌∷◌, ◌++◌, length, map}
use Rattle.cluster_consensus.specs.Facts.{Claim, World}
use Rattle.cluster_events.specs.Settings.{Setting}
use Rattle.cluster_requests.specs.KeptEntries.{KeptEntry, plain}
use Rattle.cluster_steps.specs.Named.{world}
use Rattle.cluster_steps.specs.declared.events.Event.{Event}
use Rattle.core_lists.specs.Lists.{Has}
use Rattle.election_core.specs.Senders.{sender_of}
use Rattle.election_core.specs.Told.{IsMessageTold}
use Rattle.election_core.specs.declared.messages.Action.{Action}
use Rattle.election_core.specs.declared.messages.Action.TheVariants as action
use Rattle.election_core.specs.declared.messages.Message.{Message}
use Rattle.election_core.specs.declared.messages.Message.TheVariants.{Vote, Granted, Adopt, Ship, Ack, Durable, Ping, Pong}
use Rattle.election_core.specs.declared.votes.NodeVote.{NodeVote}
use Rattle.phys_log.specs.Logs.{IsLog}
use Rattle.phys_log.specs.declared.entries.Entry.{Entry}

-- a packet as contracts see it
pub record SentPacket : Type 0 where
  pub to : ℕ
  pub message : Message
  pub entries : List Entry

-- these are the last entries of that log
abbrev pub Ends : List Entry → List Entry → Type 0
Ends es log = (front : List Entry) × (log ≡ front ++ es)

-- a shipped log is of that generation and length, and the entries are its last ones
pub record IsTailOf (g l : ℕ) (es : List Entry) (s : Claim KeptEntry) : Type 0 where
  pub gen : s.gen ≡ g
  pub size : length s.log ≡ l
  pub ends : Ends es (map plain s.log)
  pub logged : IsLog (map plain s.log)

-- of a log that is shipped the message tells the generation and the length, and the entries are its last ones; an adoption has
-- all of them, and other messages have none
abbrev pub IsTail : World KeptEntry → Message → List Entry → Type 0
IsTail w (Adopt f g l) es = Has (IsTailOf g l es) (w.nodes f).ships × (length es ≡ l)
IsTail w (Ship f g l) es = Has (IsTailOf g l es) (w.nodes f).ships
IsTail w _ es = es ≡ []

-- the message was told by a node, with these entries
pub record IsPacket (G : Setting) (m : Message) (es : List Entry) (seen : List (ℕ × Event)) : Type 0 where
  pub low : 1 ≤ sender_of m
  pub high : sender_of m ≤ G.nodes
  pub told : IsMessageTold (world G seen) m
  pub tail : IsTail (world G seen) m es

-- a packet of a message that was told, to a node
pub record IsSent (G : Setting) (seen : List (ℕ × Event)) (p : SentPacket) : Type 0 where
  pub to_low : 1 ≤ p.to
  pub to_high : p.to ≤ G.nodes
  pub packet : IsPacket G p.message p.entries seen

abbrev pub AreSent : Setting → List (ℕ × Event) → List SentPacket → Type 0
AreSent G seen [] = Unit {0}
AreSent G seen (p ∷ ps) = IsSent G seen p × AreSent G seen ps

abbrev pub packet : ℕ → Message → List Entry → SentPacket
packet to m es = record { to = to; message = m; entries = es }

-- to each of the nodes from 1 to k but one
abbrev pub others : ℕ → ℕ → Message → List Entry → List SentPacket
others zero node m es = []
others (suc k) node m es = others k node m es ++ cond (suc k == node) [] (packet (suc k) m es ∷ [])

-- what a node tells after an action, by its numbers and its log then, to whom; s is who sent the message that it answers
abbrev pub packets_of : NodeVote → Action → List Entry → ℕ → List SentPacket
packets_of u action.Nothing log s = []
packets_of u (action.Promise g to) log s = packet to (Granted u.node g to) [] ∷ []
packets_of u (action.Lead g) log s = others u.nodes u.node (Adopt u.node g (length log)) log ++ packet u.node (Ack u.node g (length log)) [] ∷ []
packets_of u (action.Take g l) log s = packet s (Ack u.node g l) [] ∷ []
packets_of u (action.Know d) log s = cond u.leading (others u.nodes u.node (Durable u.node u.accepted d) []) []
packets_of u (action.Answer m to) log s = packet to m [] ∷ []

-- where it stands in a generation: it asks the others for their votes, and has its own
abbrev pub standing_packets : NodeVote → ℕ → List SentPacket
standing_packets u g = others u.nodes u.node (Vote u.node g u.accepted u.length) [] ++ packet u.node (Granted u.node g u.node) [] ∷ []

-- where it appended these entries, it ships them to the others, and acknowledges its own log
abbrev pub appending_packets : NodeVote → List Entry → List SentPacket
appending_packets u es = others u.nodes u.node (Ship u.node u.accepted u.length) es ++ packet u.node (Ack u.node u.accepted u.length) [] ∷ []

-- for a begin that asks, it asks the others to confirm its generation
abbrev pub probing_packets : NodeVote → ℕ → List SentPacket
probing_packets u ask = others u.nodes u.node (Ping u.node u.accepted ask u.durable) []

-- the length, and the generation, of the log that a message ships
abbrev pub shipped_length : Message → ℕ
shipped_length (Adopt f g l) = l
shipped_length (Ship f g l) = l
shipped_length _ = 0

abbrev pub shipped_in : Message → ℕ
shipped_in (Adopt f g l) = g
shipped_in (Ship f g l) = g
shipped_in _ = 0

-- the ask, and the generation, that a leader asks to be confirmed
abbrev pub ask_of : Message → ℕ
ask_of (Ping f g t d) = t
ask_of _ = 0

abbrev pub asked_in : Message → ℕ
asked_in (Ping f g t d) = g
asked_in _ = 0

-- where a message stands in the table of messages: what is sent about one stands behind it
abbrev pub place_of : Message → ℕ
place_of (Vote f g a l) = 0
place_of (Granted f g to) = 1
place_of (Adopt f g l) = 2
place_of (Ship f g l) = 3
place_of (Ack f g l) = 4
place_of (Durable f g l) = 5
place_of (Ping f g t d) = 6
place_of (Pong f g t) = 7

-- each of these messages stands behind one
abbrev pub AllBehind : Message → List SentPacket → Type 0
AllBehind m [] = Unit {0}
AllBehind m (p ∷ ps) = (place_of m < place_of p.message) × AllBehind m ps

-- how many of them go to a node
abbrev pub sent_to : ℕ → List SentPacket → ℕ
sent_to k [] = 0
sent_to k (p ∷ ps) = cond (k == p.to) 1 0 + sent_to k ps

-- all of them stand behind that message, and at most one goes to each node
pub record AreBehind (m : Message) (ps : List SentPacket) : Type 0 where
  pub later : AllBehind m ps
  pub once : (k : ℕ) → sent_to k ps ≤ 1
