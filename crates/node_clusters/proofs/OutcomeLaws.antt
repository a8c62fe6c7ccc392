-- What a node does about a packet is what its numbers tell.
use Rattle.std.proofs.Common.{◌≡◌, ◌+◌, ◌<◌, ◌≤◌, List, [], length, sym, subst, ap, ◌∙◌}
use Rattle.std.specs.Prelude.{true, false}
use mathlib.Core.Logic.{◌⊎◌, inl, inr}
use Rattle.cluster_events.specs.Settings.{Setting}
use Rattle.cluster_requests.specs.KeptEntries.{plain}
use Rattle.cluster_steps.specs.Named.{world}
use Rattle.election_core.specs.Allowed.{IsMost}
use Rattle.election_core.specs.Counted.{acted, counted}
use Rattle.election_core.specs.Senders.{sender_of}
use Rattle.election_core.specs.declared.messages.Action.{Action}
use Rattle.election_core.specs.declared.messages.Message.{Message}
use Rattle.election_core.specs.declared.votes.NodeVote.{NodeVote}
use Rattle.node_clusters.proofs.PacketLaws.{generation_told, length_told, packets_told, same_through}
use Rattle.node_clusters.specs.Numbers.{by_numbers, numbers}
use Rattle.node_state.proofs.LogLists.{map_size}
use Rattle.node_state.specs.Calls as calls
use Rattle.node_state.specs.Nodes.{Held, IsOwn}
use Rattle.node_state.specs.Packets as packets
use Rattle.phys_log.specs.declared.entries.Entry.{Entry}
use Rattle.quiet_cluster.specs.Deliveries as deliveries
use Rattle.quiet_cluster.specs.Packets as bare
use Rattle.quiet_cluster.specs.Loads.{load, weight}
use Rattle.quiet_cluster.proofs.Loads.{lighter_outcome, load_none, weighs}

-- the numbers tell the length of the log
pub long : (G : Setting) (h : Held) → IsOwn G h → length h.entries ≡ h.vote.length
long G h own =
    ap length own.node.log_is ∙ (map_size plain ((world G h.actor.seen).nodes h.vote.node).log ∙ sym own.node.part.length)

joins : (v : NodeVote) (m : Message) (es : List Entry) → calls.Joins v m es → deliveries.Joins v m (length es)
joins v m es j = record {
  reaches = subst (λ k. k ≤ v.length + length es) (length_told m) j.reaches;
  whole = λ lt. subst (λ k. length es ≡ k) (length_told m) (j.whole (subst (λ k. v.accepted < k) (sym (generation_told m)) lt));
}

joined : (v : NodeVote) (m : Message) (es : List Entry) → deliveries.Joins v m (length es) → calls.Joins v m es
joined v m es j = record {
  reaches = subst (λ k. k ≤ v.length + length es) (sym (length_told m)) j.reaches;
  whole = λ lt. subst (λ k. length es ≡ k) (sym (length_told m)) (j.whole (subst (λ k. v.accepted < k) (generation_told m) lt));
}

judges : (v : NodeVote) (m : Message) (es : List Entry) (a : Action) → calls.Judges v m es a → deliveries.Judges v m (length es) a
judges v m es a (inl t) = inl (joins v m es t.0, t.1)
judges v m es a (inr t) = inr (λ j. t.0 (joined v m es j), t.1)

most : (v : NodeVote) (m : Message) (es : List Entry) (a : Action) → calls.Judges v m es a → IsMost v m a
most v m es a (inl t) = t.2
most v m es a (inr t) = subst (λ b. IsMost v m b) (sym t.1) tt

pub answers_told : (G : Setting) (m : Message) (es : List Entry) (ps : List packets.SentPacket) (old new : Held) → IsOwn G new → calls.Answers m es ps old new → deliveries.Answers old.vote m (length es) new.vote (numbers ps)
answers_told G m es ps old new own a = record {
  action = a.action;
  judged = judges old.vote m es a.action a.judged;
  most = most old.vote m es a.action a.judged;
  changes = a.acts.vote ∙ ap (λ b. acted (counted old.vote m) b) (same_through m a.action);
  sends = ap numbers a.sends ∙ (packets_told new.vote (calls.through m a.action) new.entries (sender_of m) (long G new own) ∙ ap (λ b. bare.packets_of new.vote b (sender_of m)) (same_through m a.action));
}

-- it took the packet in
pub took : (G : Setting) (p : packets.SentPacket) (ps : List packets.SentPacket) (old mid new : Held) → mid.vote ≡ old.vote → IsOwn G new → (mid.vote.up ≡ true) × calls.Answers p.message p.entries ps mid new
    → deliveries.Outcome old.vote (by_numbers p) new.vote (numbers ps)
took G p ps old mid new same own a =
    subst (λ v. deliveries.Outcome v (by_numbers p) new.vote (numbers ps)) same
    (inr (a.0, answers_told G p.message p.entries ps mid new own a.1))

-- it is down
pub was_down : (p : packets.SentPacket) (ps : List packets.SentPacket) (v u : NodeVote) → u.up ≡ false → ps ≡ [] → deliveries.Outcome v (by_numbers p) u (numbers ps)
was_down p ps v u down none = inl (down, ap numbers none)

pub few : (G : Setting) (h : Held) → IsOwn G h → h.vote.nodes ≤ 7
few G h own = subst (λ k. k ≤ 7) (sym own.node.nodes_is) own.node.few

pub light : (v u : NodeVote) (p : packets.SentPacket) (ps : List packets.SentPacket) → deliveries.Outcome v (by_numbers p) u (numbers ps) → (u.nodes ≤ 7) ⊎ (ps ≡ []) → load (numbers ps) < weight p.message
light v u p ps o h = lighter_outcome v u (by_numbers p) (numbers ps) o (elim h [ inl n ↦ inl n | inr e ↦ inr (ap numbers e) ])

-- nothing is sent
pub nothing_sent : (p : packets.SentPacket) (ps : List packets.SentPacket) (v u : NodeVote) → v.up ≡ false → u ≡ v → ps ≡ [] → deliveries.Outcome v (by_numbers p) u (numbers ps)
nothing_sent p ps v u down same none = was_down p ps v u (ap (λ (t : NodeVote). t.up) same ∙ down) none

pub light_none : (m : Message) (ps : List packets.SentPacket) → ps ≡ [] → load (numbers ps) < weight m
light_none m ps none = load_none (numbers ps) (weight m) (weighs m) (ap numbers none)

pub light_so : (G : Setting) (v : NodeVote) (h : Held) (p : packets.SentPacket) (ps : List packets.SentPacket) → IsOwn G h → deliveries.Outcome v (by_numbers p) h.vote (numbers ps) → load (numbers ps) < weight p.message
light_so G v h p ps own o = light v h.vote p ps o (inl (few G h own))
