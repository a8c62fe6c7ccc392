-- What a node sends after an action was told by its event, and what was told stays told.
use Rattle.std.proofs.Common.{ℕ, ◌≡◌, ◌≤◌, List, [], ◌∷◌, ◌++◌, length, take, arith, refl, sym, subst, ap, ◌∙◌}
use Rattle.std.specs.Prelude.{zero, suc, ◌==◌, Bool, true, false, cond}
use Rattle.actor_trace.specs.Lists.{Begins}
use Rattle.actor_trace.specs.Steps.{Adds, Rests}
use Rattle.cluster_consensus.specs.Events.{NodeEvent, change}
use Rattle.cluster_consensus.specs.Facts.{Own, World}
use Rattle.cluster_consensus.proofs.Laws.{known_within}
use Rattle.cluster_events.specs.Settings.{Setting}
use Rattle.cluster_events.specs.Parts.{ActorEvent}
use Rattle.cluster_requests.specs.KeptEntries.{KeptEntry, plain}
use Rattle.cluster_steps.specs.Named.{named, steps, world}
use Rattle.cluster_steps.specs.declared.events.Event.{Event}
use Rattle.cluster_steps.specs.declared.events.Event.TheVariants.{Stand, Grant, Lead, Take, Learn, Probe, Confirm}
use Rattle.cluster_steps.proofs.OwnLaws.{own_adds, tells_rests, tells_begins}
use Rattle.cluster_steps.proofs.StepLaws.{core_legal, world_is}
use Rattle.cluster_steps.specs.Guards.{AreLegalSteps}
use Rattle.core_lists.specs.Lists.{Has}
use Rattle.core_lists.specs.Lists.In.{here}
use Rattle.core_lists.proofs.Fronts.{length_take, take_length}
use Rattle.election_core.specs.Allowed.{Allows}
use Rattle.election_core.specs.Counted.{acted, counted, counts_vote, counts_length, with_length}
use Rattle.election_core.specs.Counts.{with_bit}
use Rattle.election_core.specs.More.{TellsMore}
use Rattle.election_core.specs.Told.{IsMessageTold}
use Rattle.election_core.proofs.Keeping.{part_kept, same_after}
use Rattle.election_core.specs.declared.messages.Action.{Action}
use Rattle.election_core.specs.declared.messages.Action.TheVariants as action
use Rattle.election_core.specs.declared.messages.Message.{Message}
use Rattle.election_core.specs.declared.messages.Message.TheVariants.{Vote, Granted, Adopt, Ship, Ack, Durable, Ping, Pong}
use Rattle.election_core.specs.declared.votes.NodeVote.{NodeVote}
use Rattle.election_core.proofs.Acted.{has_in}
use Rattle.phys_log.specs.Logs.{IsLog}
use Rattle.phys_log.specs.declared.entries.Entry.{Entry}
use Rattle.node_state.specs.Nodes.{IsNode}
use Rattle.node_state.specs.Packets.{SentPacket, IsPacket, IsTail, IsTailOf, AreSent, packet, others, packets_of, standing_packets, probing_packets}
use Rattle.node_state.proofs.LogLists.{map_size}
use Rattle.node_state.proofs.NodeLaws.{allowed}
use Rattle.node_state.proofs.ShipLaws.{taken}

told_on : {w u : World KeptEntry} (m : Message) → TellsMore w u → IsMessageTold w m → IsMessageTold u m
told_on (Vote f g a l) t x = has_in (t.nodes f).votes x
told_on (Granted f g to) t x = has_in (t.nodes f).grants x
told_on (Adopt f g l) t x = has_in (t.nodes f).ships x
told_on (Ship f g l) t x = has_in (t.nodes f).ships x
told_on (Ack f g l) t x = has_in (t.nodes f).acks x
told_on (Durable f g l) t x = has_in (t.nodes f).durables x
told_on (Ping f g a d) t x = has_in (t.nodes f).pings x
told_on (Pong f g a) t x = has_in (t.nodes f).pongs x

tail_on : {w u : World KeptEntry} (m : Message) (es : List Entry) → TellsMore w u → IsTail w m es → IsTail u m es
tail_on (Vote f g a l) es t x = x
tail_on (Granted f g to) es t x = x
tail_on (Adopt f g l) es t x = (has_in (t.nodes f).ships x.0, x.1)
tail_on (Ship f g l) es t x = has_in (t.nodes f).ships x
tail_on (Ack f g l) es t x = x
tail_on (Durable f g l) es t x = x
tail_on (Ping f g a d) es t x = x
tail_on (Pong f g a) es t x = x

pub packet_on : {G : Setting} {m : Message} {es : List Entry} {old new : List (ℕ × Event)} → TellsMore (world G old) (world G new) → IsPacket G m es old → IsPacket G m es new
packet_on {m = m} {es = es} t p = record { low = p.low; high = p.high; told = told_on m t p.told; tail = tail_on m es t p.tail }

pub sent_on : (G : Setting) (old new : List (ℕ × Event)) (ps : List SentPacket) → TellsMore (world G old) (world G new) → AreSent G old ps → AreSent G new ps
sent_on G old new [] more x = tt
sent_on G old new (p ∷ ps) more x =
    let y = x.0 in
    (record { to_low = y.to_low; to_high = y.to_high; packet = packet_on more y.packet }, sent_on G old new ps more x.1)

-- what a note tells is known to who goes on from it
pub packet_heard : (G : Setting) (m : Message) (es : List Entry) (note seen : List (ℕ × Event)) → Begins note seen → IsPacket G m es note → IsPacket G m es seen
packet_heard G m es note seen b p = packet_on (tells_begins G note seen b) p

pub packet_rests : (G : Setting) (i : ℕ) (m : Message) (es : List Entry) (old new : List (ℕ × Event)) → Rests i old new → IsPacket G m es old → IsPacket G m es new
packet_rests G i m es old new d p = packet_on (tells_rests G i old new d) p

pub sent_rests : (G : Setting) (i : ℕ) (ps : List SentPacket) (old new : List (ℕ × Event)) → Rests i old new → AreSent G old ps → AreSent G new ps
sent_rests G i ps old new d x = sent_on G old new ps (tells_rests G i old new d) x

pub sent_more : (G : Setting) (seen : List (ℕ × Event)) (ps qs : List SentPacket) → AreSent G seen ps → AreSent G seen qs → AreSent G seen (ps ++ qs)
sent_more G seen [] qs x y = y
sent_more G seen (p ∷ ps) qs x y = (x.0, sent_more G seen ps qs x.1 y)

pub others_sent : (G : Setting) (k node : ℕ) (m : Message) (es : List Entry) (seen : List (ℕ × Event)) → IsPacket G m es seen → k ≤ G.nodes → AreSent G seen (others k node m es)
others_sent G zero node m es seen p le = tt
others_sent G (suc k) node m es seen p le = sent_more G seen (others k node m es) (cond (suc k == node) [] (packet (suc k) m es ∷ [])) (others_sent G k node m es seen p (omega arith)) (go (suc k == node))
  where
    go : (b : Bool) → AreSent G seen (cond b [] (packet (suc k) m es ∷ []))
    go true = tt
    go false = (record { to_low = omega arith; to_high = le; packet = p }, tt)

pub one_sent : (G : Setting) (seen : List (ℕ × Event)) (to : ℕ) (m : Message) → 1 ≤ to → to ≤ G.nodes → IsPacket G m [] seen → AreSent G seen (packet to m [] ∷ [])
one_sent G seen to m low high p = (record { to_low = low; to_high = high; packet = p }, tt)

who : (v : NodeVote) (m : Message) (a : Action) → ((acted (counted v m) a).node ≡ v.node) × ((acted (counted v m) a).nodes ≡ v.nodes)
who v m a = same_after v (acted (counted v m) a) m a refl

pub grant_sent : {G : Setting} (v : NodeVote) (log : List Entry) (seen new : List (ℕ × Event)) (m : Message) (es : List Entry) (g to s : ℕ) → IsNode G v log seen → IsPacket G m es seen → Allows v m (action.Promise g to)
    → Adds v.node (Grant g to) seen new → AreLegalSteps G new → AreSent G new (packet to (Granted v.node g to) [] ∷ [])
grant_sent {G} v log seen new (Vote f h a l) es g to s is p may d legal =
    let o = (world G seen).nodes v.node in
    let w = world G new in
    let own = own_adds G v.node (Grant g to) (NodeEvent.Grants g to) seen new refl tt d legal in
    let told : IsMessageTold w (Granted v.node g to) = subst (λ (t : Own KeptEntry). Has (λ x. (x.gen ≡ g) × (x.to ≡ to)) t.grants) (sym own) (record { it = record { gen = g; to = to; accepted = o.accepted; log = o.log }; mem = here; is = (refl, refl) }) in
    let e : to ≡ f = may.2 in
    one_sent G new to (Granted v.node g to) (subst (λ k. 1 ≤ k) (sym e) p.low) (subst (λ k. k ≤ G.nodes) (sym e) p.high) (record { low = is.low; high = is.high; told = told; tail = refl })
grant_sent v log seen new (Granted f h a) es g to s is p may step legal = absurd may
grant_sent v log seen new (Adopt f h l) es g to s is p may step legal = absurd may
grant_sent v log seen new (Ship f h l) es g to s is p may step legal = absurd may
grant_sent v log seen new (Ack f h l) es g to s is p may step legal = absurd may
grant_sent v log seen new (Durable f h l) es g to s is p may step legal = absurd may
grant_sent v log seen new (Ping f h t d) es g to s is p may step legal = absurd may
grant_sent v log seen new (Pong f h t) es g to s is p may step legal = absurd may

pub confirm_sent : {G : Setting} (v : NodeVote) (log : List Entry) (seen new : List (ℕ × Event)) (m : Message) (es : List Entry) (g t to : ℕ) → IsNode G v log seen → IsPacket G m es seen
    → Allows v m (action.Answer (Pong v.node g t) to) → Adds v.node (Confirm t g) seen new → AreLegalSteps G new → AreSent G new (packet to (Pong v.node g t) [] ∷ [])
confirm_sent {G} v log seen new (Ping f h a d) es g t to is p may add legal =
    let o = (world G seen).nodes v.node in
    let own = own_adds G v.node (Confirm t g) (NodeEvent.Confirm t g) seen new refl tt add legal in
    let told : IsMessageTold (world G new) (Pong v.node g t) = subst (λ (x : Own KeptEntry). Has (λ y. (y.ask ≡ t) × (y.gen ≡ g)) x.pongs) (sym own) (record { it = record { ask = t; gen = g }; mem = here; is = (refl, refl) }) in
    let e : to ≡ f = may.2 in
    one_sent G new to (Pong v.node g t) (subst (λ k. 1 ≤ k) (sym e) p.low) (subst (λ k. k ≤ G.nodes) (sym e) p.high) (record { low = is.low; high = is.high; told = told; tail = refl })
confirm_sent v log seen new (Vote f h a l) es g t to is p may d legal = absurd may
confirm_sent v log seen new (Granted f h a) es g t to is p may d legal = absurd may
confirm_sent v log seen new (Adopt f h l) es g t to is p may d legal = absurd may
confirm_sent v log seen new (Ship f h l) es g t to is p may d legal = absurd may
confirm_sent v log seen new (Ack f h l) es g t to is p may d legal = absurd may
confirm_sent v log seen new (Durable f h l) es g t to is p may d legal = absurd may
confirm_sent v log seen new (Pong f h a) es g t to is p may d legal = absurd may

-- the length that it took is acknowledged
pub take_acked : {G : Setting} (v : NodeVote) (log : List Entry) (seen new : List (ℕ × Event)) (m : Message) (es : List Entry) (g l : ℕ) → IsNode G v log seen → IsPacket G m es seen → Allows v m (action.Take g l)
    → Adds v.node (Take g l) seen new → AreLegalSteps G new → IsPacket G (Ack v.node g l) [] new
take_acked {G} v log seen new m es g l is p may d legal =
    let t = taken v log seen m es g l is p may in
    let own = own_adds G v.node (Take g l) t.event seen new t.name t.is_exact d legal in
    let told : IsMessageTold (world G new) (Ack v.node g l) = subst (λ (x : Own KeptEntry). Has (λ c. (c.gen ≡ g) × (length c.log ≡ l)) x.acks) (sym own) t.acked in
    record { low = is.low; high = is.high; told = told; tail = refl }

pub ack_sent : {G : Setting} (seen : List (ℕ × Event)) (node g l s : ℕ) → 1 ≤ s → s ≤ G.nodes → IsPacket G (Ack node g l) [] seen → AreSent G seen (packet s (Ack node g l) [] ∷ [])
ack_sent {G} seen node g l s low high p = one_sent G seen s (Ack node g l) low high p

pub lead_sent : {G : Setting} (v : NodeVote) (log : List Entry) (seen new : List (ℕ × Event)) (m : Message) (es : List Entry) (g s : ℕ) → IsNode G v log seen → IsPacket G m es seen → Allows v m (action.Lead g)
    → Adds v.node (Lead g) seen new → AreLegalSteps G new → AreSent G new (packets_of (acted (counted v m) (action.Lead g)) (action.Lead g) log s)
lead_sent {G} v log seen new m es g s is p may d legal = at (acted (counted v m) (action.Lead g)) same.0 (same.1 ∙ is.nodes_is)
  where
    same : ((acted (counted v m) (action.Lead g)).node ≡ v.node) × ((acted (counted v m) (action.Lead g)).nodes ≡ v.nodes)
    same = who v m (action.Lead g)

    o : Own KeptEntry
    o = (world G seen).nodes v.node

    gen : o.promised ≡ g
    gen = sym ((allowed v log seen m es (action.Lead g) is p may).1.0 ∙ (part_kept v m o is.part).promised)

    own : (world G new).nodes v.node ≡ change v.node o NodeEvent.Lead
    own = own_adds G v.node (Lead g) NodeEvent.Lead seen new refl (sym gen) d legal

    size : length o.log ≡ length log
    size = sym (ap length is.log_is ∙ map_size plain o.log)

    tail : IsTailOf g (length log) log (record { gen = o.promised; log = o.log })
    tail = record { gen = gen; size = size; ends = ([], sym is.log_is); logged = subst IsLog is.log_is is.logged }

    adopt : IsPacket G (Adopt v.node g (length log)) log new
    adopt = record {
      low = is.low;
      high = is.high;
      told = subst (λ (x : Own KeptEntry). Has (λ c. (c.gen ≡ g) × (length c.log ≡ length log)) x.ships) (sym own) (record { it = record { gen = o.promised; log = o.log }; mem = here; is = (gen, size) });
      tail = (subst (λ (x : Own KeptEntry). Has (IsTailOf g (length log) log) x.ships) (sym own) (record { it = record { gen = o.promised; log = o.log }; mem = here; is = tail }), refl);
    }

    ack : IsPacket G (Ack v.node g (length log)) [] new
    ack = record {
      low = is.low;
      high = is.high;
      told = subst (λ (x : Own KeptEntry). Has (λ c. (c.gen ≡ g) × (length c.log ≡ length log)) x.acks) (sym own) (record { it = record { gen = o.promised; log = o.log }; mem = here; is = (gen, size) });
      tail = refl;
    }

    sends : AreSent G new (others G.nodes v.node (Adopt v.node g (length log)) log ++ packet v.node (Ack v.node g (length log)) [] ∷ [])
    sends = sent_more G new (others G.nodes v.node (Adopt v.node g (length log)) log) (packet v.node (Ack v.node g (length log)) [] ∷ [])
        (others_sent G G.nodes v.node (Adopt v.node g (length log)) log new adopt (omega arith)) (one_sent G new v.node (Ack v.node g (length log)) is.low is.high ack)

    at : (u : NodeVote) → u.node ≡ v.node → u.nodes ≡ G.nodes → AreSent G new (packets_of u (action.Lead g) log s)
    at u un us = subst (λ k. AreSent G new (others k u.node (Adopt u.node g (length log)) log ++ packet u.node (Ack u.node g (length log)) [] ∷ [])) (sym us)
        (subst (λ i. AreSent G new (others G.nodes i (Adopt i g (length log)) log ++ packet i (Ack i g (length log)) [] ∷ [])) (sym un) sends)

counted_leads : (v : NodeVote) (m : Message) → ((counted v m).leading ≡ v.leading) × ((counted v m).accepted ≡ v.accepted)
counted_leads v (Granted f g to) = go (counts_vote v g to)
  where
    go : (b : Bool) → ((cond b (record v { granted = with_bit v.granted f }) v).leading ≡ v.leading) × ((cond b (record v { granted = with_bit v.granted f }) v).accepted ≡ v.accepted)
    go true = (refl, refl)
    go false = (refl, refl)
counted_leads v (Ack f g l) = go (counts_length v g)
  where
    go : (b : Bool) → ((cond b (record v { acked = with_length v.acked f l }) v).leading ≡ v.leading) × ((cond b (record v { acked = with_length v.acked f l }) v).accepted ≡ v.accepted)
    go true = (refl, refl)
    go false = (refl, refl)
counted_leads v (Vote f g a l) = (refl, refl)
counted_leads v (Adopt f g l) = (refl, refl)
counted_leads v (Ship f g l) = (refl, refl)
counted_leads v (Durable f g l) = (refl, refl)
counted_leads v (Ping f g t d) = (refl, refl)
counted_leads v (Pong f g t) = (refl, refl)

pub know_sent : {G : Setting} (v : NodeVote) (log : List Entry) (seen new : List (ℕ × Event)) (m : Message) (es : List Entry) (d s : ℕ) → IsNode G v log seen → IsPacket G m es seen → Allows v m (action.Know d)
    → Adds v.node (Learn d) seen new → AreLegalSteps G new → AreSent G new (packets_of (acted (counted v m) (action.Know d)) (action.Know d) log s)
know_sent {G} v log seen new m es d s is p may add legal = at (acted (counted v m) (action.Know d)) same.0 (same.1 ∙ is.nodes_is) (counted_leads v m).0 (counted_leads v m).1
  where
    same : ((acted (counted v m) (action.Know d)).node ≡ v.node) × ((acted (counted v m) (action.Know d)).nodes ≡ v.nodes)
    same = who v m (action.Know d)

    o : Own KeptEntry
    o = (world G seen).nodes v.node

    leads : v.leading ≡ true → AreSent G new (others G.nodes v.node (Durable v.node v.accepted d) [])
    leads lead =
        let ol : o.leading ≡ true = sym is.part.leading ∙ lead in
        let name : named G (steps G seen) v.node (Learn d) ≡ ActorEvent.Node (NodeEvent.LearnLead d) = ap (λ b. ActorEvent.Node (cond b (NodeEvent.LearnLead d) (NodeEvent.LearnFollow d))) ol in
        let own = own_adds G v.node (Learn d) (NodeEvent.LearnLead d) seen new name tt add legal in
        let known : ((world G new).nodes v.node).durable ≤ length ((world G new).nodes v.node).log = subst (λ (w : World KeptEntry). (w.nodes v.node).durable ≤ length (w.nodes v.node).log) (sym (world_is G new)) (known_within G.nodes v.node _ (core_legal G new legal)) in
        let within : d ≤ length o.log = subst (λ (x : Own KeptEntry). x.durable ≤ length x.log) own known in
        let a = length_take d o.log in
        let b = take_length d o.log within in
        let size : length (take d o.log) ≡ d = omega arith in
        let told : IsMessageTold (world G new) (Durable v.node v.accepted d) = subst (λ (x : Own KeptEntry). Has (λ c. (c.gen ≡ v.accepted) × (length c.log ≡ d)) x.durables) (sym own) (record { it = record { gen = o.accepted; log = take d o.log }; mem = here; is = (sym is.part.accepted, size) }) in
        others_sent G G.nodes v.node (Durable v.node v.accepted d) [] new (record { low = is.low; high = is.high; told = told; tail = refl }) (omega arith)

    go : (b : Bool) → v.leading ≡ b → AreSent G new (cond b (others G.nodes v.node (Durable v.node v.accepted d) []) [])
    go true e = leads e
    go false e = tt

    at : (u : NodeVote) → u.node ≡ v.node → u.nodes ≡ G.nodes → u.leading ≡ v.leading → u.accepted ≡ v.accepted → AreSent G new (packets_of u (action.Know d) log s)
    at u un us ul ua =
        subst (λ k. AreSent G new (cond u.leading (others k u.node (Durable u.node u.accepted d) []) [])) (sym us)
        (subst (λ i. AreSent G new (cond u.leading (others G.nodes i (Durable i u.accepted d) []) [])) (sym un)
        (subst (λ a. AreSent G new (cond u.leading (others G.nodes v.node (Durable v.node a d) []) [])) (sym ua)
        (subst (λ b. AreSent G new (cond b (others G.nodes v.node (Durable v.node v.accepted d) []) [])) (sym ul) (go v.leading refl))))

-- it stands, and tells its vote for itself
pub stand_sent : {G : Setting} (v : NodeVote) (log : List Entry) (seen new : List (ℕ × Event)) (g : ℕ) → IsNode G v log seen
    → Adds v.node (Stand g) seen new → AreLegalSteps G new → AreSent G new (standing_packets (acted v (action.Promise g v.node)) g)
stand_sent {G} v log seen new g is d legal = subst (λ k. AreSent G new (others k v.node (Vote v.node g v.accepted v.length) [] ++ packet v.node (Granted v.node g v.node) [] ∷ [])) (sym is.nodes_is) sends
  where
    o : Own KeptEntry
    o = (world G seen).nodes v.node

    own : (world G new).nodes v.node ≡ change v.node o (NodeEvent.Stand g)
    own = own_adds G v.node (Stand g) (NodeEvent.Stand g) seen new refl tt d legal

    ask : IsPacket G (Vote v.node g v.accepted v.length) [] new
    ask = record {
      low = is.low;
      high = is.high;
      told = subst (λ (x : Own KeptEntry). Has (λ y. (y.gen ≡ g) × (y.accepted ≡ v.accepted) × (length y.log ≡ v.length)) x.votes) (sym own) (record { it = record { gen = g; accepted = o.accepted; log = o.log }; mem = here; is = (refl, sym is.part.accepted, sym is.part.length) });
      tail = refl;
    }

    mine : IsPacket G (Granted v.node g v.node) [] new
    mine = record {
      low = is.low;
      high = is.high;
      told = subst (λ (x : Own KeptEntry). Has (λ y. (y.gen ≡ g) × (y.to ≡ v.node)) x.grants) (sym own) (record { it = record { gen = g; to = v.node; accepted = o.accepted; log = o.log }; mem = here; is = (refl, refl) });
      tail = refl;
    }

    sends : AreSent G new (others G.nodes v.node (Vote v.node g v.accepted v.length) [] ++ packet v.node (Granted v.node g v.node) [] ∷ [])
    sends = sent_more G new (others G.nodes v.node (Vote v.node g v.accepted v.length) []) (packet v.node (Granted v.node g v.node) [] ∷ [])
        (others_sent G G.nodes v.node (Vote v.node g v.accepted v.length) [] new ask (omega arith)) (one_sent G new v.node (Granted v.node g v.node) is.low is.high mine)

-- it asks for its generation to be confirmed
pub probe_sent : {G : Setting} (v : NodeVote) (log : List Entry) (seen new : List (ℕ × Event)) (t : ℕ) → IsNode G v log seen
    → Adds v.node (Probe t) seen new → AreLegalSteps G new → AreSent G new (probing_packets v t)
probe_sent {G} v log seen new t is d legal = subst (λ k. AreSent G new (others k v.node (Ping v.node v.accepted t v.durable) [])) (sym is.nodes_is) (others_sent G G.nodes v.node (Ping v.node v.accepted t v.durable) [] new ping (omega arith))
  where
    o : Own KeptEntry
    o = (world G seen).nodes v.node

    own : (world G new).nodes v.node ≡ change v.node o (NodeEvent.Probe t)
    own = own_adds G v.node (Probe t) (NodeEvent.Probe t) seen new refl tt d legal

    ping : IsPacket G (Ping v.node v.accepted t v.durable) [] new
    ping = record {
      low = is.low;
      high = is.high;
      told = subst (λ (x : Own KeptEntry). Has (λ y. (y.ask ≡ t) × (y.gen ≡ v.accepted) × (y.durable ≡ v.durable)) x.pings) (sym own) (record { it = record { ask = t; gen = o.accepted; durable = o.durable }; mem = here; is = (refl, sym is.part.accepted, sym is.part.durable) });
      tail = refl;
    }
