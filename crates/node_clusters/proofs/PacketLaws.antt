-- The packets of a node are those that its numbers tell.
use Rattle.std.proofs.Common.{ℕ, ◌≡◌, List, [], ◌∷◌, ◌++◌, length, refl, ap, ◌∙◌}
use Rattle.std.specs.Prelude.{zero, suc, ◌==◌, Bool, true, false, cond}
use Rattle.election_core.specs.declared.messages.Action.{Action}
use Rattle.election_core.specs.declared.messages.Action.TheVariants as action
use Rattle.election_core.specs.declared.messages.Message.{Message}
use Rattle.election_core.specs.declared.messages.Message.TheVariants.{Vote, Granted, Adopt, Ship, Ack, Durable, Ping, Pong}
use Rattle.election_core.specs.declared.votes.NodeVote.{NodeVote}
use Rattle.node_clusters.specs.Numbers.{by_numbers, numbers}
use Rattle.node_state.specs.Calls as calls
use Rattle.node_state.specs.Packets as packets
use Rattle.phys_log.specs.declared.entries.Entry.{Entry}
use Rattle.quiet_cluster.specs.Deliveries as deliveries
use Rattle.quiet_cluster.specs.Packets as bare

pub numbers_join : (ps qs : List packets.SentPacket) → numbers (ps ++ qs) ≡ numbers ps ++ numbers qs
numbers_join [] qs = refl
numbers_join (p ∷ ps) qs = ap (λ t. by_numbers p ∷ t) (numbers_join ps qs)

pub length_told : (m : Message) → packets.shipped_length m ≡ deliveries.shipped_length m
length_told (Vote f g a l) = refl
length_told (Granted f g to) = refl
length_told (Adopt f g l) = refl
length_told (Ship f g l) = refl
length_told (Ack f g l) = refl
length_told (Durable f g l) = refl
length_told (Ping f g t d) = refl
length_told (Pong f g t) = refl

pub generation_told : (m : Message) → packets.shipped_in m ≡ deliveries.shipped_in m
generation_told (Vote f g a l) = refl
generation_told (Granted f g to) = refl
generation_told (Adopt f g l) = refl
generation_told (Ship f g l) = refl
generation_told (Ack f g l) = refl
generation_told (Durable f g l) = refl
generation_told (Ping f g t d) = refl
generation_told (Pong f g t) = refl

pub same_through : (m : Message) (a : Action) → calls.through m a ≡ deliveries.through m a
same_through m action.Nothing = refl
same_through m (action.Promise g to) = refl
same_through m (action.Lead g) = refl
same_through m (action.Take g l) = ap (λ k. action.Take g k) (length_told m)
same_through m (action.Know d) = refl
same_through m (action.Answer x to) = refl

pub others_told : (k node : ℕ) (m : Message) (es : List Entry) → numbers (packets.others k node m es) ≡ bare.others k node m (length es)
others_told zero node m es = refl
others_told (suc k) node m es = numbers_join (packets.others k node m es) (cond (suc k == node) [] (packets.packet (suc k) m es ∷ []))
    ∙ (ap (λ t. t ++ numbers (cond (suc k == node) [] (packets.packet (suc k) m es ∷ []))) (others_told k node m es) ∙ ap (λ t. bare.others k node m (length es) ++ t) (last (suc k == node)))
  where
    last : (b : Bool) → numbers (cond b [] (packets.packet (suc k) m es ∷ [])) ≡ cond b [] (bare.packet (suc k) m (length es) ∷ [])
    last true = refl
    last false = refl

-- to each other node, and one to itself
pub rounds_told : (k node : ℕ) (m x : Message) (es : List Entry) → numbers (packets.others k node m es ++ packets.packet node x [] ∷ []) ≡ bare.others k node m (length es) ++ bare.packet node x 0 ∷ []
rounds_told k node m x es = numbers_join (packets.others k node m es) (packets.packet node x [] ∷ []) ∙ ap (λ t. t ++ bare.packet node x 0 ∷ []) (others_told k node m es)

pub packets_told : (u : NodeVote) (a : Action) (log : List Entry) (s : ℕ) → length log ≡ u.length → numbers (packets.packets_of u a log s) ≡ bare.packets_of u a s
packets_told u action.Nothing log s e = refl
packets_told u (action.Promise g to) log s e = refl
packets_told u (action.Lead g) log s e =
    rounds_told u.nodes u.node (Adopt u.node g (length log)) (Ack u.node g (length log)) log
    ∙ ap (λ l. bare.others u.nodes u.node (Adopt u.node g l) l ++ bare.packet u.node (Ack u.node g l) 0 ∷ []) e
packets_told u (action.Take g l) log s e = refl
packets_told u (action.Know d) log s e = go u.leading
  where
    go : (b : Bool) → numbers (cond b (packets.others u.nodes u.node (Durable u.node u.accepted d) []) []) ≡ cond b (bare.others u.nodes u.node (Durable u.node u.accepted d) 0) []
    go true = others_told u.nodes u.node (Durable u.node u.accepted d) []
    go false = refl
packets_told u (action.Answer m to) log s e = refl

pub standing_told : (u : NodeVote) (g : ℕ) → numbers (packets.standing_packets u g) ≡ bare.standing_packets u g
standing_told u g = rounds_told u.nodes u.node (Vote u.node g u.accepted u.length) (Granted u.node g u.node) []

pub appending_told : (u : NodeVote) (es : List Entry) → numbers (packets.appending_packets u es) ≡ bare.appending_packets u (length es)
appending_told u es = rounds_told u.nodes u.node (Ship u.node u.accepted u.length) (Ack u.node u.accepted u.length) es
