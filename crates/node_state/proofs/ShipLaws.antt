-- The log that a node takes is the front of the shipped one.
use Rattle.std.proofs.Common.{ℕ, ◌≡◌, ◌+◌, ◌-◌, ◌<◌, ◌≤◌, List, [], ◌∷◌, ◌++◌, length, take, map, length-append, arith, refl, sym, subst, ap, ◌∙◌}
use Rattle.std.specs.Prelude.{◌==◌, true, false, cond, Some, slice_get, unwrap_or}
use Rattle.std.proofs.lemmas.Bool.Decides.{Decides-eqb}
use mathlib.Core.Logic.{◌⊎◌, inl, inr}
use Rattle.actor_trace.proofs.Entries.{not_eq}
use Rattle.cluster_consensus.specs.Enabled.{Enabled}
use Rattle.cluster_consensus.specs.Events.{NodeEvent, change}
use Rattle.cluster_consensus.specs.Facts.{Own, World, Claim}
use Rattle.cluster_consensus.specs.Shipped.{find_log}
use Rattle.cluster_consensus.proofs.Invariant.{Inv}
use Rattle.cluster_consensus.proofs.FactSteps.{grown}
use Rattle.cluster_consensus.proofs.Lengths.{front_found}
use Rattle.cluster_events.specs.Settings.{Setting}
use Rattle.cluster_events.specs.Parts.{ActorEvent}
use Rattle.cluster_requests.specs.KeptEntries.{KeptEntry, plain}
use Rattle.cluster_steps.specs.Guards.{IsExact}
use Rattle.cluster_steps.specs.Named.{log_named, named, steps, world}
use Rattle.cluster_steps.specs.declared.events.Event.{Event}
use Rattle.cluster_steps.specs.declared.events.Event.TheVariants.{Take}
use Rattle.cluster_steps.proofs.StepLaws.{inv_of}
use Rattle.core_lists.specs.Fronts.{Front}
use Rattle.core_lists.specs.Lists.{In, Has}
use Rattle.core_lists.specs.Lists.In.{here}
use Rattle.core_lists.proofs.Fronts.{front_refl, front_take, front_trans, front_same}
use Rattle.election_core.specs.Allowed.{Takes, Allows}
use Rattle.election_core.specs.Counted.{acted, counted}
use Rattle.election_core.specs.Told.{IsPart, IsEventOf}
use Rattle.election_core.proofs.Keeping.{part_kept}
use Rattle.election_core.specs.declared.messages.Action.TheVariants as action
use Rattle.election_core.specs.declared.messages.Message.{Message}
use Rattle.election_core.specs.declared.messages.Message.TheVariants.{Vote, Granted, Adopt, Ship, Ack, Durable, Ping, Pong}
use Rattle.election_core.specs.declared.votes.NodeVote.{NodeVote}
use Rattle.log_replay.proofs.LogLemmas.{first_log}
use Rattle.phys_log.specs.Logs.{IsLog}
use Rattle.phys_log.specs.declared.entries.Entry.{Entry}
use Rattle.node_state.specs.Calls.{Joins, Ships, Continues}
use Rattle.node_state.specs.Nodes.{IsNode, Follows}
use Rattle.node_state.specs.Packets.{IsPacket, IsTail, Ends, shipped_length, shipped_in}
use Rattle.node_state.proofs.LogLists.{one_ship, take_size, map_size, map_take, map_front, whole_end, one_taken}
use Rattle.node_state.proofs.NodeLaws.{IsPlain, follows, allowed, Allowed}

-- a message that ships nothing comes without entries, and joins
joins_none : (v : NodeVote) (m : Message) (es : List Entry) → (Ships m → ⊥) → es ≡ [] → Joins v m es
joins_none v (Vote f g a l) es none e = record { reaches = omega arith; whole = λ h. absurd (omega arith) }
joins_none v (Granted f g to) es none e = record { reaches = omega arith; whole = λ h. absurd (omega arith) }
joins_none v (Adopt f g l) es none e = absurd (none tt)
joins_none v (Ship f g l) es none e = absurd (none tt)
joins_none v (Ack f g l) es none e = record { reaches = omega arith; whole = λ h. absurd (omega arith) }
joins_none v (Durable f g l) es none e = record { reaches = omega arith; whole = λ h. absurd (omega arith) }
joins_none v (Ping f g t d) es none e = record { reaches = omega arith; whole = λ h. absurd (omega arith) }
joins_none v (Pong f g t) es none e = record { reaches = omega arith; whole = λ h. absurd (omega arith) }

-- it ships something, or has no entries
pub ships_or_none : (w : World KeptEntry) (m : Message) (es : List Entry) → IsTail w m es → Ships m ⊎ (es ≡ [])
ships_or_none w (Vote f g a l) es t = inr t
ships_or_none w (Granted f g to) es t = inr t
ships_or_none w (Adopt f g l) es t = inl tt
ships_or_none w (Ship f g l) es t = inl tt
ships_or_none w (Ack f g l) es t = inr t
ships_or_none w (Durable f g l) es t = inr t
ships_or_none w (Ping f g a d) es t = inr t
ships_or_none w (Pong f g a) es t = inr t

pub counted_ships : (v : NodeVote) (m : Message) → Ships m → counted v m ≡ v
counted_ships v (Adopt f g l) s = refl
counted_ships v (Ship f g l) s = refl
counted_ships v (Vote f g a l) s = absurd s
counted_ships v (Granted f g to) s = absurd s
counted_ships v (Ack f g l) s = absurd s
counted_ships v (Durable f g l) s = absurd s
counted_ships v (Ping f g t d) s = absurd s
counted_ships v (Pong f g t) s = absurd s

-- where a message does not join, nothing of it is counted
pub unjoined_counts_nothing : (v : NodeVote) (m : Message) (es : List Entry) → Ships m ⊎ (es ≡ []) → (Joins v m es → ⊥) → v ≡ acted (counted v m) action.Nothing
unjoined_counts_nothing v m es (inl s) none = sym (counted_ships v m s)
unjoined_counts_nothing v m es (inr e) none = go (ships m)
  where
    ships : (m : Message) → Ships m ⊎ (Ships m → ⊥)
    ships (Vote f g a l) = inr (λ s. s)
    ships (Granted f g to) = inr (λ s. s)
    ships (Adopt f g l) = inl tt
    ships (Ship f g l) = inl tt
    ships (Ack f g l) = inr (λ s. s)
    ships (Durable f g l) = inr (λ s. s)
    ships (Ping f g t d) = inr (λ s. s)
    ships (Pong f g t) = inr (λ s. s)

    go : Ships m ⊎ (Ships m → ⊥) → v ≡ acted (counted v m) action.Nothing
    go (inl s) = sym (counted_ships v m s)
    go (inr n) = absurd (none (joins_none v m es n e))

-- the test of a message that joins
pub joins_where : (v : NodeVote) (m : Message) (es : List Entry) → (shipped_length m - length es ≤ v.length) × ((shipped_in m ≤ v.accepted) ⊎ (length es ≡ shipped_length m)) → Joins v m es
joins_where v m es (a, inl h) = record { reaches = omega arith; whole = λ z. absurd (omega arith) }
joins_where v m es (a, inr h) = record { reaches = omega arith; whole = λ z. h }

-- a shipped log that the message tells, of which it allows a length
pub record Shipped (G : Setting) (w : World KeptEntry) (v : NodeVote) (m : Message) (es : List Entry) (g l : ℕ) : Type 0 where
  pub from : ℕ
  pub low : 1 ≤ from
  pub high : from ≤ G.nodes
  pub ship : Claim KeptEntry
  pub mem : In ship (w.nodes from).ships
  pub gen : ship.gen ≡ g
  pub size : length ship.log ≡ shipped_length m
  pub gen_told : shipped_in m ≡ g
  pub ends : Ends es (map plain ship.log)
  pub logged : IsLog (map plain ship.log)
  pub takes : Takes v g (shipped_length m) l

pub shipped : {G : Setting} (v : NodeVote) (seen : List (ℕ × Event)) (m : Message) (es : List Entry) (g l : ℕ) → IsPacket G m es seen → Allows v m (action.Take g l) → Shipped G (world G seen) v m es g l
shipped v seen (Adopt f h k) es g l p may =
    let q : g ≡ h = may.1 in
    let t = p.tail.0 in
    record { from = f; low = p.low; high = p.high; ship = t.it; mem = t.mem; gen = t.is.gen ∙ sym q; size = t.is.size; gen_told = sym q; ends = t.is.ends; logged = t.is.logged; takes = subst (λ x. Takes v x k l) (sym q) may.0.2 }
shipped v seen (Ship f h k) es g l p may =
    let q : g ≡ h = may.1 in
    let t = p.tail in
    record { from = f; low = p.low; high = p.high; ship = t.it; mem = t.mem; gen = t.is.gen ∙ sym q; size = t.is.size; gen_told = sym q; ends = t.is.ends; logged = t.is.logged; takes = subst (λ x. Takes v x k l) (sym q) may.0.2 }
shipped v seen (Vote f h a k) es g l p may = absurd may
shipped v seen (Granted f h to) es g l p may = absurd may
shipped v seen (Ack f h k) es g l p may = absurd may
shipped v seen (Durable f h k) es g l p may = absurd may
shipped v seen (Ping f h t d) es g l p may = absurd may
shipped v seen (Pong f h t) es g l p may = absurd may

enough : (v : NodeVote) (g k l : ℕ) → Takes v g k l → l ≤ k
enough v g k l (inl t) = let e : l ≡ k = t.1 in omega arith
enough v g k l (inr (inl t)) = let lt : v.length < k = t.1.0 in let e : l ≡ v.length + 1 = t.1.1 in omega arith
enough v g k l (inr (inr t)) = let e : l ≡ k = t.1.1 in omega arith

-- the log that a take leaves is the front of the shipped one, whether it is a new one or the same one grown
pub record Taken (G : Setting) (v : NodeVote) (seen : List (ℕ × Event)) (m : Message) (g l : ℕ) (log : List KeptEntry) : Type 0 where
  pub is_exact : IsExact G (steps G seen) v.node (Take g l)
  pub event : NodeEvent KeptEntry
  pub is_plain : IsPlain event
  pub name : named G (steps G seen) v.node (Take g l) ≡ ActorEvent.Node event
  pub enabled : Enabled G.nodes (world G seen) v.node ((world G seen).nodes v.node) event
  pub part : IsPart (acted (counted v m) (action.Take g l)) (change v.node ((world G seen).nodes v.node) event)
  pub leaves : log ≡ (change v.node ((world G seen).nodes v.node) event).log
  pub acked : Has (λ c. (c.gen ≡ g) × (length c.log ≡ l)) (change v.node ((world G seen).nodes v.node) event).acks
  pub onto : ((world G seen).nodes v.node).accepted ≡ g → Front ((world G seen).nodes v.node).log log

pub taken : {G : Setting} (v : NodeVote) (log : List Entry) (seen : List (ℕ × Event)) (m : Message) (es : List Entry) (g l : ℕ) (is : IsNode G v log seen) (p : IsPacket G m es seen) (may : Allows v m (action.Take g l))
    → Taken G v seen m g l (take l (shipped v seen m es g l p may).ship.log)
taken {G} v log seen m es g l is p may = go x.1
  where
    n : ℕ
    n = G.nodes

    w : World KeptEntry
    w = world G seen

    o : Own KeptEntry
    o = w.nodes v.node

    inv : Inv n w
    inv = inv_of G seen is.legal

    s : Shipped G w v m es g l
    s = shipped v seen m es g l p may

    x : Allowed G seen v m (action.Take g l)
    x = allowed v log seen m es (action.Take g l) is p may

    front : List KeptEntry
    front = take l s.ship.log

    long : length front ≡ l
    long = take_size l s.ship.log (let a = enough v g (shipped_length m) l s.takes in let b : length s.ship.log ≡ shipped_length m = s.size in omega arith)

    found : find_log w g l n ≡ Some front
    found = subst (λ k. find_log w g k n ≡ Some front) long (front_found inv g s.from n s.ship front s.mem s.gen (front_take l s.ship.log) s.low s.high)

    log_is : log_named n w g l ≡ front
    log_is = ap (λ t. unwrap_or t []) found

    exact : find_log w g l n ≡ Some (log_named n w g l)
    exact = found ∙ ap Some (sym log_is)

    grows : (y : List KeptEntry) → (counted v m).accepted ≡ g → x.0 ≡ NodeEvent.Grow y → length y ≡ l → Taken G v seen m g l front
    grows y acc q len =
        let en : Enabled n w v.node o (NodeEvent.Grow y) = subst (λ t. Enabled n w v.node o t) q x.2 in
        let h = en.1.2 in
        let og : o.accepted ≡ g = sym (part_kept v m o is.part).accepted ∙ acc in
        let same : y ≡ front = one_ship inv en.1.1 s.from h.it s.ship h.mem s.mem (h.is.0 ∙ (og ∙ sym s.gen)) y front h.is.1 (front_take l s.ship.log) (len ∙ sym long) in
        let yes : (g == o.accepted) ≡ true = (Decides-eqb g o.accepted).1 (sym og) in
        let r : x.0 ≡ NodeEvent.Grow front = q ∙ ap NodeEvent.Grow same in
        let en2 : Enabled n w v.node o (NodeEvent.Grow front) = subst (λ t. Enabled n w v.node o t) r x.2 in
        record {
          is_exact = exact;
          event = NodeEvent.Grow front;
          is_plain = tt;
          name = ap ActorEvent.Node (ap (λ b. cond b (NodeEvent.Grow (log_named n w g l)) (NodeEvent.Take g (log_named n w g l))) yes ∙ ap NodeEvent.Grow log_is);
          enabled = en2;
          part = subst (λ t. IsPart (acted (counted v m) (action.Take g l)) (change v.node o t)) r x.3;
          leaves = refl;
          acked = record { it = record { gen = o.accepted; log = front }; mem = here; is = (og, long) };
          onto = λ z. (grown inv v.node front en2.1).0;
        }

    takes : (y : List KeptEntry) → x.0 ≡ NodeEvent.Take g y → length y ≡ l → Taken G v seen m g l front
    takes y q len =
        let en : Enabled n w v.node o (NodeEvent.Take g y) = subst (λ t. Enabled n w v.node o t) q x.2 in
        let h = en.1.2.1 in
        let lt : o.accepted < g = en.1.1 in
        let whole : Front y h.it.log = subst (λ t. Front t h.it.log) h.is.1 (front_refl h.it.log) in
        let same : y ≡ front = one_ship inv en.1.2.0 s.from h.it s.ship h.mem s.mem (h.is.0 ∙ sym s.gen) y front whole (front_take l s.ship.log) (len ∙ sym long) in
        let other : (g == o.accepted) ≡ false = not_eq g o.accepted (λ e. omega arith) in
        let r : x.0 ≡ NodeEvent.Take g front = q ∙ ap (NodeEvent.Take g) same in
        record {
          is_exact = exact;
          event = NodeEvent.Take g front;
          is_plain = tt;
          name = ap ActorEvent.Node (ap (λ b. cond b (NodeEvent.Grow (log_named n w g l)) (NodeEvent.Take g (log_named n w g l))) other ∙ ap (NodeEvent.Take g) log_is);
          enabled = subst (λ t. Enabled n w v.node o t) r x.2;
          part = subst (λ t. IsPart (acted (counted v m) (action.Take g l)) (change v.node o t)) r x.3;
          leaves = refl;
          acked = record { it = record { gen = g; log = front }; mem = here; is = (refl, long) };
          onto = λ z. absurd (omega arith);
        }

    go : IsEventOf (counted v m) (action.Take g l) x.0 → Taken G v seen m g l front
    go (inl (acc, y, q, len)) = grows y acc q len
    go (inr (y, q, len)) = takes y q len

pub taken_follows : {G : Setting} (v : NodeVote) (log log' : List Entry) (seen : List (ℕ × Event)) (m : Message) (es : List Entry) (g l : ℕ) (is : IsNode G v log seen) (p : IsPacket G m es seen) (may : Allows v m (action.Take g l))
    → log' ≡ map plain (take l (shipped v seen m es g l p may).ship.log) → Follows G v.node (Take g l) (acted (counted v m) (action.Take g l)) log' seen
taken_follows v log log' seen m es g l is p may e =
    let t = taken v log seen m es g l is p may in
    let s = shipped v seen m es g l p may in
    let logged : IsLog log' = subst IsLog (sym (e ∙ map_take plain l s.ship.log)) (first_log (map plain s.ship.log) l s.logged) in
    follows v log log' seen m es (action.Take g l) (Take g l) t.event is p t.is_plain t.is_exact t.name (λ h. refl) t.enabled t.part (e ∙ ap (map plain) t.leaves) logged

-- a message that is taken ships a log
pub takes_ships : (v : NodeVote) (m : Message) (g l : ℕ) → Allows v m (action.Take g l) → Ships m
takes_ships v (Adopt f h k) g l may = tt
takes_ships v (Ship f h k) g l may = tt
takes_ships v (Vote f h a k) g l may = absurd may
takes_ships v (Granted f h to) g l may = absurd may
takes_ships v (Ack f h k) g l may = absurd may
takes_ships v (Durable f h k) g l may = absurd may
takes_ships v (Ping f h t d) g l may = absurd may
takes_ships v (Pong f h t) g l may = absurd may

pub takes_all_new : (v : NodeVote) (g k l : ℕ) → v.accepted < g → Takes v g k l → l ≡ k
takes_all_new v g k l lt (inl t) = t.1
takes_all_new v g k l lt (inr (inl t)) = absurd (let q : v.accepted ≡ g = t.0 in omega arith)
takes_all_new v g k l lt (inr (inr t)) = absurd (let q : v.accepted ≡ g = t.0 in omega arith)

-- a log of a newer generation is taken whole
pub takes_whole : {G : Setting} (v : NodeVote) (log log' : List Entry) (seen : List (ℕ × Event)) (m : Message) (es : List Entry) (g l : ℕ) → IsNode G v log seen → IsPacket G m es seen → Allows v m (action.Take g l)
    → v.accepted < g → Joins v m es → log' ≡ es → Follows G v.node (Take g l) (acted (counted v m) (action.Take g l)) log' seen
takes_whole {G} v log log' seen m es g l is p may lt j new_log =
    let s = shipped v seen m es g l p may in
    let gt : shipped_in m ≡ g = s.gen_told in
    let whole : length es ≡ shipped_length m = j.whole (subst (λ t. v.accepted < t) (sym gt) lt) in
    let e : es ≡ map plain s.ship.log = whole_end (map plain s.ship.log) s.ends.0 es s.ends.1 (whole ∙ (sym s.size ∙ sym (map_size plain s.ship.log))) in
    let k : l ≡ shipped_length m = takes_all_new v g (shipped_length m) l lt s.takes in
    let z : length s.ship.log ≡ shipped_length m = s.size in
    let f : take l s.ship.log ≡ s.ship.log = front_same (front_take l s.ship.log) (let a = take_size l s.ship.log (omega arith) in omega arith) in
    taken_follows v log log' seen m es g l is p may (new_log ∙ (e ∙ ap (map plain) (sym f)))

-- its log is as long as its numbers say
pub sized : {G : Setting} (v : NodeVote) (log : List Entry) (seen : List (ℕ × Event)) → IsNode G v log seen → length log ≡ v.length
sized {G} v log seen is = ap length is.log_is ∙ (map_size plain ((world G seen).nodes v.node).log ∙ sym is.part.length)

-- in the generation that it accepted the node takes one entry more
pub takes_one : {G : Setting} (v : NodeVote) (log log' : List Entry) (at : ℕ) (e : Entry) (seen : List (ℕ × Event)) (m : Message) (es : List Entry) (g l : ℕ) → IsNode G v log seen → IsPacket G m es seen
    → Allows v m (action.Take g l) → v.accepted ≡ g → l ≡ v.length + 1 → l ≤ shipped_length m → Joins v m es → at ≡ v.length - (shipped_length m - length es) → slice_get es at ≡ Some e
    → log' ≡ log ++ e ∷ [] → Follows G v.node (Take g l) (acted (counted v m) (action.Take g l)) log' seen
takes_one {G} v log log' at e seen m es g l is p may acc more le j place got new_log = taken_follows v log log' seen m es g l is p may (whole ∙ sym (map_take plain l s.ship.log))
  where
    s : Shipped G (world G seen) v m es g l
    s = shipped v seen m es g l p may

    t : Taken G v seen m g l (take l s.ship.log)
    t = taken v log seen m es g l is p may

    onto : Front log (map plain s.ship.log)
    onto = subst (λ k. Front k (map plain s.ship.log)) (sym is.log_is) (map_front plain (front_trans (t.onto (sym is.part.accepted ∙ acc)) (front_take l s.ship.log)))

    whole : log' ≡ take l (map plain s.ship.log)
    whole =
        let a : length (map plain s.ship.log) ≡ length (s.ends.0 ++ es) = ap length s.ends.1 in
        let b : length (s.ends.0 ++ es) ≡ length s.ends.0 + length es = length-append s.ends.0 es in
        let c : length s.ship.log ≡ shipped_length m = s.size in
        let d : shipped_length m ≤ v.length + length es = j.reaches in
        let k : length log ≡ v.length = sized v log seen is in
        let z : length (map plain s.ship.log) ≡ length s.ship.log = map_size plain s.ship.log in
        one_taken log log' (map plain s.ship.log) s.ends.0 es at l e onto s.ends.1 (omega arith) (omega arith) (omega arith) got new_log

-- or it has all of it
pub takes_none : {G : Setting} (v : NodeVote) (log : List Entry) (seen : List (ℕ × Event)) (m : Message) (es : List Entry) (g l : ℕ) → IsNode G v log seen → IsPacket G m es seen → Allows v m (action.Take g l)
    → (v.accepted < g → ⊥) → (v.length < l → ⊥) → Follows G v.node (Take g l) (acted (counted v m) (action.Take g l)) log seen
takes_none {G} v log seen m es g l is p may ge whole = taken_follows v log log seen m es g l is p may (go s.takes)
  where
    o : Own KeptEntry
    o = (world G seen).nodes v.node

    s : Shipped G (world G seen) v m es g l
    s = shipped v seen m es g l p may

    t : Taken G v seen m g l (take l s.ship.log)
    t = taken v log seen m es g l is p may

    go : Takes v g (shipped_length m) l → log ≡ map plain (take l s.ship.log)
    go (inl x) = absurd (ge x.0)
    go (inr (inl x)) = absurd (whole (let b : l ≡ v.length + 1 = x.1.1 in omega arith))
    go (inr (inr x)) =
        let a : v.length ≡ shipped_length m = x.1.0 in
        let b : l ≡ shipped_length m = x.1.1 in
        let c : length s.ship.log ≡ shipped_length m = s.size in
        let d = take_size l s.ship.log (omega arith) in
        let z : v.length ≡ length o.log = is.part.length in
        is.log_is ∙ ap (map plain) (front_same (t.onto (sym is.part.accepted ∙ x.0)) (omega arith))

-- what goes on, and what is allowed then
pub continues_allows : (v : NodeVote) (m : Message) → Continues v m → Allows v m (action.Take (shipped_in m) (v.length + 1))
continues_allows v (Adopt f g l) c = ((c.up, c.promised, inr (inl (c.accepted, (c.less, refl)))), refl)
continues_allows v (Ship f g l) c = ((c.up, c.promised, inr (inl (c.accepted, (c.less, refl)))), refl)
continues_allows v (Vote f g a l) c = absurd c.ships
continues_allows v (Granted f g to) c = absurd c.ships
continues_allows v (Ack f g l) c = absurd c.ships
continues_allows v (Durable f g l) c = absurd c.ships
continues_allows v (Ping f g t d) c = absurd c.ships
continues_allows v (Pong f g t) c = absurd c.ships

one_more : (v : NodeVote) (g k l : ℕ) → Takes v g k l → (v.accepted < g → ⊥) → v.length < l → (v.accepted ≡ g) × (v.length < k) × (l ≡ v.length + 1)
one_more v g k l (inl t) ge lt = absurd (ge t.0)
one_more v g k l (inr (inl t)) ge lt = (t.0, t.1.0, t.1.1)
one_more v g k l (inr (inr t)) ge lt = absurd (let a : v.length ≡ k = t.1.0 in let b : l ≡ k = t.1.1 in omega arith)

pub continues : (v : NodeVote) (m : Message) (g l : ℕ) → Allows v m (action.Take g l) → (v.accepted < g → ⊥) → v.length < l → Continues v m
continues v (Adopt f h k) g l may ge lt =
    let q : g ≡ h = may.1 in
    let o = one_more v h k l may.0.2 (λ z. ge (omega arith)) lt in
    record { ships = tt; up = may.0.0; promised = may.0.1; accepted = o.0; less = o.1 }
continues v (Ship f h k) g l may ge lt =
    let q : g ≡ h = may.1 in
    let o = one_more v h k l may.0.2 (λ z. ge (omega arith)) lt in
    record { ships = tt; up = may.0.0; promised = may.0.1; accepted = o.0; less = o.1 }
continues v (Vote f h a k) g l may ge lt = absurd may
continues v (Granted f h to) g l may ge lt = absurd may
continues v (Ack f h k) g l may ge lt = absurd may
continues v (Durable f h k) g l may ge lt = absurd may
continues v (Ping f h t d) g l may ge lt = absurd may
continues v (Pong f h t) g l may ge lt = absurd may
