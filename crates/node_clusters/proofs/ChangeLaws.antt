-- A node went down, or came up, in a cluster that is led.
use Rattle.std.specs.declared.alloc.Global.{Global}
use Rattle.std.proofs.Common.{ℕ, ◌≡◌, ◌-◌, ◌<◌, ◌≤◌, List, [], ◌∷◌, ◌++◌, length, get_or, slice_set, arith, refl, sym, subst, ap, ◌∙◌}
use Rattle.std.specs.Prelude.{Bool, true, false, cond, Option, None, Some, Vec, Result, Ok, Err, IfOk, OnErr}
use Rattle.std.proofs.Math.ListN.{length-set}
use mathlib.Core.Logic.{◌⊎◌, inl, inr}
use Rattle.cluster_events.specs.Settings.{Setting}
use Rattle.cluster_steps.specs.declared.events.Event.{Event}
use Rattle.cluster_steps.specs.declared.events.Woken.{Woken}
use Rattle.core_lists.specs.Lists.{Each}
use Rattle.core_lists.proofs.Lists.{nothing}
use Rattle.election_core.specs.declared.messages.Message.TheVariants.{Adopt, Durable}
use Rattle.election_core.specs.declared.votes.NodeVote.{NodeVote}
use Rattle.node_clusters.proofs.LedLaws.{behind_nothing, its_own, only_at, still_placed, unled}
use Rattle.node_clusters.proofs.OutcomeLaws.{long}
use Rattle.node_clusters.proofs.PassLaws.{all_pass_themselves, as_before_passes, passes_at, unmoved}
use Rattle.node_clusters.proofs.PlaceLaws.{place_self, placed}
use Rattle.node_clusters.proofs.TurnLaws.{no_turns, takes_at, turns_between}
use Rattle.node_clusters.specs.Changes.{HasSeen, HasShipped, HasShippedAt, IsChanged, KnowsMoreAt, LeadsStill, MayFollow, ShipsWhole}
use Rattle.node_clusters.specs.Clusters.{ArePlaced, HasPlace, IsAfter, IsCluster, IsLedBy, IsOther}
use Rattle.node_clusters.specs.Looks.{IsNoted, IsReady}
use Rattle.node_clusters.specs.Numbers.{numbers}
use Rattle.node_clusters.specs.Passes.{PassAll}
use Rattle.node_clusters.specs.Places.{node_at, votes}
use Rattle.node_state.proofs.CallLaws.{before_then}
use Rattle.node_state.specs.Calls.{Falls, IsAsBefore}
use Rattle.node_state.specs.Nodes.{Held, IsOwn, events_of}
use Rattle.node_state.specs.Packets as packets
use Rattle.node_state.specs.Restarts.{Kept, Wakes}
use Rattle.node_state.specs.Ships.{Leads, ShipsAgain, learned_by}
use Rattle.node_state.specs.Stores.{Stored, held_of}
use Rattle.quiet_cluster.proofs.Ends.{led_down, led_up}
use Rattle.quiet_cluster.proofs.Lists.{each_one, same_or}
use Rattle.quiet_cluster.specs.Deliveries.{OnlyAt}
use Rattle.quiet_cluster.specs.Led.{Fits, Led}
use Rattle.quiet_cluster.specs.Packets.{packet}

-- what a leader tells behind its log
told_fits : (v : NodeVote) (to : ℕ) (b : Bool) (m g l : ℕ) → (to ≡ m → ⊥) → Each (λ p. Fits p.message p.to m g l) (numbers (cond b (packets.packet to (Durable v.node v.accepted v.durable) [] ∷ []) []))
told_fits v to true m g l ne = each_one ne
told_fits v to false m g l ne = record { at = λ x h. absurd (nothing h) }

-- what it ships
ships_whole : (G : Setting) (to : ℕ) (ps : List packets.SentPacket) (mid new : Held) → IsOwn G mid → Leads mid.vote → ShipsAgain to ps mid new → ShipsWhole to mid.vote ps
ships_whole G to ps mid new own leads s = record {
  rest = numbers (cond (learned_by (events_of mid.actor.made)) (packets.packet to (Durable mid.vote.node mid.vote.accepted mid.vote.durable) [] ∷ []) []);
  first = ap numbers (s.leads leads) ∙ ap (λ l. packet to (Adopt mid.vote.node mid.vote.accepted l) l ∷ numbers (cond (learned_by (events_of mid.actor.made)) (packets.packet to (Durable mid.vote.node mid.vote.accepted mid.vote.durable) [] ∷ []) [])) (long G mid own);
  fits = λ m g l ne. told_fits mid.vote to (learned_by (events_of mid.actor.made)) m g l ne;
}

-- it shipped, between two looks; or memory was wanted
ships_so : (G : Setting) (to : ℕ) (ps : List packets.SentPacket) (last next : Option (List (ℕ × Event))) (old mid between new : Stored) → IsReady G last old mid → IsNoted G between new next → Leads old.vote → ShipsAgain to ps (held_of mid) (held_of between) → between.over ≡ mid.over → HasShipped to ps last old new next
ships_so G to ps last next old mid between new ready noted leads s over = record {
  ships = subst (λ v. ShipsWhole to v ps) ready.same.vote (ships_whole G to ps (held_of mid) (held_of between) ready.own (subst (λ v. Leads v) (sym ready.same.vote) leads) s);
  turn = turns_between G last next old mid between new (as_before_passes mid between s.same over) ready noted;
}

pub shipped_if : {E : Type 0} (G : Setting) (to : ℕ) (r : Result (Vec packets.SentPacket Global) E) (last next : Option (List (ℕ × Event))) (old mid between new : Stored) → IsReady G last old mid → IsNoted G between new next → Leads old.vote
    → IfOk r (λ x. ShipsAgain to x.items (held_of mid) (held_of between)) → between.over ≡ mid.over → IfOk r (λ x. HasShipped to x.items last old new next)
shipped_if G to (Ok ps) last next old mid between new ready noted leads s over = ships_so G to ps.items last next old mid between new ready noted leads s over
shipped_if G to (Err e) last next old mid between new ready noted leads s over = tt

same_between : {E : Type 0} (to : ℕ) (r : Result (Vec packets.SentPacket Global) E) (mid between : Stored) → IfOk r (λ x. ShipsAgain to x.items (held_of mid) (held_of between)) → OnErr r (between ≡ mid) → IsAsBefore (held_of mid) (held_of between)
same_between to (Ok ps) mid between s e = s.same
same_between to (Err x) mid between s e = unmoved mid between e

pub shipped_same : {E : Type 0} (G : Setting) (to : ℕ) (r : Result (Vec packets.SentPacket Global) E) (last next : Option (List (ℕ × Event))) (old mid between new : Stored) → IsReady G last old mid → IsNoted G between new next
    → IfOk r (λ x. ShipsAgain to x.items (held_of mid) (held_of between)) → OnErr r (between ≡ mid) → IsAsBefore (held_of old) (held_of new)
shipped_same G to r last next old mid between new ready noted s e =
    before_then (held_of old) (held_of mid) (held_of new) ready.same (before_then (held_of mid) (held_of between) (held_of new) (same_between to r mid between s e) noted.same)

pub shipped_over : (G : Setting) (last next : Option (List (ℕ × Event))) (old mid between new : Stored) → IsReady G last old mid → IsNoted G between new next → between.over ≡ mid.over → new.over ≡ old.over
shipped_over G last next old mid between new ready noted over = noted.over ∙ (over ∙ ready.over)

pub other_still : (G : Setting) (to : ℕ) (last : Option (List (ℕ × Event))) (old mid : Stored) → IsReady G last old mid → (to ≡ old.vote.node → ⊥) → to ≡ mid.vote.node → ⊥
other_still G to last old mid ready ne e = ne (e ∙ ap (λ (v : NodeVote). v.node) ready.same.vote)

-- the node at a place
pub leads_there : (vs : List Stored) (m : ℕ) (v : Stored) → HasPlace vs m → v ≡ get_or vs (m - 1) v → Leads (votes vs m) → Leads v.vote
leads_there vs m v place at leads = subst (λ (t : Stored). Leads t.vote) (placed vs m v place.0 place.1 at) leads

pub other_there : (vs : List Stored) (m to : ℕ) (v : Stored) → HasPlace vs m → v ≡ get_or vs (m - 1) v → (to ≡ (votes vs m).node → ⊥) → to ≡ v.vote.node → ⊥
other_there vs m to v place at ne e = ne (e ∙ ap (λ (t : Stored). t.vote.node) (sym (placed vs m v place.0 place.1 at)))

size_before : (vs was : List Stored) (i : ℕ) (u : Stored) → vs ≡ slice_set was (i - 1) u → length vs ≡ length was
size_before vs was i u put = ap length put ∙ length-set was (i - 1) u

-- each is at its place still
pub placed_so : (G : Setting) (vs : List Stored) (master : Option ℕ) (i : ℕ) → IsChanged G vs master i → ArePlaced G vs
placed_so G vs master i c = record {
  size = size_before vs c.was i (node_at vs i) c.only ∙ c.cluster.nodes.size;
  few = c.cluster.nodes.few;
  placed = λ k low high. go k low high (same_or k i);
}
  where
    go : (k : ℕ) → 0 < k → k ≤ G.nodes → (k ≡ i) ⊎ (k ≡ i → ⊥) → (votes vs k).node ≡ k
    go k low high (inl e) = ap (λ j. (votes vs j).node) e ∙ (c.node ∙ sym e)
    go k low high (inr ne) = ap (λ (v : NodeVote). v.node) (only_at c.was vs i (node_at vs i) c.place.0 c.only k ne) ∙ c.cluster.nodes.placed k low high

-- nobody is known to lead
unled_so : (G : Setting) (vs : List Stored) (q : List packets.SentPacket) (was : Option ℕ) (i : ℕ) → IsChanged G vs was i → IsCluster G vs q None
unled_so G vs q was i c = record { nodes = placed_so G vs was i c; led = tt }

pub changed_after : (G : Setting) (vs us : List Stored) (q : List packets.SentPacket) (was master : Option ℕ) (i : ℕ) → IsChanged G vs was i → PassAll vs us → master ≡ None → IsAfter G vs us q master
changed_after G vs us q was master i c p e = record { cluster = subst (λ z. IsCluster G us q z) (sym e) (unled G vs us q q None (unled_so G vs q was i c) p); passed = p }

pub changed_same : (G : Setting) (vs : List Stored) (q : List packets.SentPacket) (was master : Option ℕ) (i : ℕ) → IsChanged G vs was i → master ≡ None → IsAfter G vs vs q master
changed_same G vs q was master i c e = changed_after G vs vs q was master i c (all_pass_themselves vs) e

pub changed_with : (G : Setting) (vs : List Stored) (was : Option ℕ) (m i : ℕ) → IsChanged G vs was i → was ≡ Some m → IsChanged G vs (Some m) i
changed_with G vs was m i c is = subst (λ z. IsChanged G vs z i) is c

pub seen_unled : (vs : List Stored) (i : ℕ) (was master : Option ℕ) (last : Option (List (ℕ × Event))) → was ≡ None → master ≡ None → HasSeen i last vs was vs master last
seen_unled vs i was master last none to = record { turns = no_turns vs vs last last refl refl; leads = subst (λ z. LeadsStill vs i z master) (sym none) to }

-- who leads may not be followed
pub seen_apart : (vs : List Stored) (i m : ℕ) (was master : Option ℕ) (last : Option (List (ℕ × Event))) → was ≡ Some m → (votes vs i).up ≡ true → ((m ≡ i → ⊥) → MayFollow (votes vs i) (votes vs m) → ⊥) → HasSeen i last vs was vs master last
seen_apart vs i m was master last is up apart = record { turns = no_turns vs vs last last refl refl; leads = subst (λ z. LeadsStill vs i z master) (sym is) (λ ne may. absurd (apart ne (may up))) }

-- it is down
pub down_so : (G : Setting) (vs : List Stored) (q : List packets.SentPacket) (u : NodeVote) (was master : Option ℕ) (i : ℕ) → IsChanged G vs was i → q ≡ [] → u ≡ votes vs i → u.up ≡ false → IsOther was i master → IsCluster G vs q master
down_so G vs q u None master i c none at down other = subst (λ t. IsCluster G vs q t) (sym other) (unled_so G vs q None i c)
down_so G vs q u (Some m) master i c none at down (inr t) = subst (λ z. IsCluster G vs q z) (sym t.1) (unled_so G vs q (Some m) i c)
down_so G vs q u (Some m) master i c none at down (inl t) = subst (λ z. IsCluster G vs q z) (sym t.1) (record { nodes = placed_so G vs (Some m) i c; led = subst (λ z. IsLedBy G vs z m) (sym none) led })
  where
    fell : (votes vs i).up ≡ false
    fell = ap (λ (x : NodeVote). x.up) (sym at) ∙ down

    led : IsLedBy G vs [] m
    led = its_own G.nodes (votes vs) [] m (votes c.was m).accepted (votes c.was m).length
        (led_down G.nodes (votes c.was) (votes vs) [] m (votes c.was m).accepted (votes c.was m).length i (λ x. t.0 (sym x)) (only_at c.was vs i (node_at vs i) c.place.0 c.only) fell c.cluster.led)

pub down_after : (G : Setting) (vs : List Stored) (q : List packets.SentPacket) (u : NodeVote) (was master : Option ℕ) (i : ℕ) → IsChanged G vs was i → q ≡ [] → u ≡ votes vs i → u.up ≡ false → IsOther was i master → IsAfter G vs vs q master
down_after G vs q u was master i c none at down other = record { cluster = down_so G vs q u was master i c none at down other; passed = all_pass_themselves vs }

leads_still : (vs : List Stored) (i : ℕ) (was master : Option ℕ) → IsOther was i master → LeadsStill vs i was master
leads_still vs i None master other = other
leads_still vs i (Some m) master (inl t) = λ ne may. t.1
leads_still vs i (Some m) master (inr t) = λ ne may. absurd (ne t.0)

pub seen_down : (vs : List Stored) (i : ℕ) (was master : Option ℕ) (last : Option (List (ℕ × Event))) → IsOther was i master → HasSeen i last vs was vs master last
seen_down vs i was master last other = record { turns = no_turns vs vs last last refl refl; leads = leads_still vs i was master other }

-- it came up
leading_off : (v u : NodeVote) → (u.up ≡ false) ⊎ ((v.up ≡ false) × (u.leading ≡ false)) → u.up ≡ true → u.leading ≡ false
leading_off v u (inl e) up = absurd (cc)
leading_off v u (inr e) up = e.1

-- the leader has a place, and leads
unmoved_leader : (G : Setting) (vs : List Stored) (m i : ℕ) → (c : IsChanged G vs (Some m) i) → (i ≡ m → ⊥) → votes vs m ≡ votes c.was m
unmoved_leader G vs m i c ne = only_at c.was vs i (node_at vs i) c.place.0 c.only m (λ x. ne (sym x))

pub changed_place : (G : Setting) (vs : List Stored) (m i : ℕ) → IsChanged G vs (Some m) i → HasPlace vs m
changed_place G vs m i c =
    let name = c.cluster.led.named m c.cluster.led.leads.up in
    let size : length vs ≡ G.nodes = size_before vs c.was i (node_at vs i) c.only ∙ c.cluster.nodes.size in
    (name.0, (let h : m ≤ G.nodes = name.1 in omega arith))

pub changed_leads : (G : Setting) (vs : List Stored) (m i : ℕ) → IsChanged G vs (Some m) i → (i ≡ m → ⊥) → Leads (votes vs m)
changed_leads G vs m i c ne =
    let same = unmoved_leader G vs m i c ne in
    (ap (λ (v : NodeVote). v.up) same ∙ c.cluster.led.leads.up, ap (λ (v : NodeVote). v.leading) same ∙ c.cluster.led.leads.leading)

pub changed_other : (G : Setting) (vs : List Stored) (m i : ℕ) → IsChanged G vs (Some m) i → (i ≡ m → ⊥) → i ≡ (votes vs m).node → ⊥
changed_other G vs m i c ne e = ne (e ∙ (ap (λ (v : NodeVote). v.node) (unmoved_leader G vs m i c ne) ∙ c.cluster.led.leads.node))

pub changed_to : (G : Setting) (vs : List Stored) (was : Option ℕ) (i : ℕ) → IsChanged G vs was i → (1 ≤ i) × (i ≤ G.nodes)
changed_to G vs was i c =
    let low : 0 < i = c.place.0 in
    let high : i ≤ length c.was = c.place.1 in
    let size : length c.was ≡ G.nodes = c.cluster.nodes.size in
    (omega arith, omega arith)

pub knows_passes : (m : ℕ) (vs us : List Stored) → HasPlace vs m → KnowsMoreAt m vs us → PassAll vs us
knows_passes m vs us place x = passes_at vs us m x.node place x.put (as_before_passes (node_at vs m) x.node x.same x.over)

joined_so : (G : Setting) (vs us : List Stored) (q r ps : List packets.SentPacket) (m i : ℕ) (last next : Option (List (ℕ × Event))) → IsChanged G vs (Some m) i → (i ≡ m → ⊥) → (votes vs i).up ≡ true → MayFollow (votes vs i) (votes vs m) → HasShippedAt m i ps last vs us next → q ≡ [] → r ≡ q ++ ps
    → IsCluster G us r (Some m)
joined_so G vs us q r ps m i last next c ne up may x none behind = record {
  nodes = still_placed G vs us (placed_so G vs (Some m) i c) (knows_passes m vs us place x.knows);
  led = its_own G.nodes (votes us) (numbers r) m (votes c.was m).accepted (votes c.was m).length (subst (λ t. Led G.nodes (votes us) t m (votes c.was m).accepted (votes c.was m).length) (sym queue) led);
}
  where
    place : HasPlace vs m
    place = changed_place G vs m i c

    -- it has the numbers that it had
    theirs : votes vs m ≡ votes c.was m
    theirs = unmoved_leader G vs m i c ne

    mine : votes us i ≡ votes vs i
    mine = only_at vs us m x.knows.node place.0 x.knows.put i ne

    its : votes us m ≡ votes vs m
    its = ap (λ (t : Stored). t.vote) (ap (λ t. node_at t m) x.knows.put ∙ place_self vs m x.knows.node place.0 place.1) ∙ x.knows.same.vote

    either : (k : ℕ) → (k ≡ i → ⊥) → (k ≡ m) ⊎ (k ≡ m → ⊥) → votes us k ≡ votes c.was k
    either k apart (inl e) = ap (λ j. votes us j) e ∙ (its ∙ (theirs ∙ ap (λ j. votes c.was j) (sym e)))
    either k apart (inr other) = only_at vs us m x.knows.node place.0 x.knows.put k other ∙ only_at c.was vs i (node_at vs i) c.place.0 c.only k apart

    only : OnlyAt i (votes c.was) (votes us)
    only = λ k apart. either k apart (same_or k m)

    short : (votes us i).accepted ≡ (votes c.was m).accepted → (votes us i).length ≤ (votes c.was m).length
    short e =
        let b : (votes vs i).length ≤ (votes vs m).length = may.short (ap (λ (t : NodeVote). t.accepted) (sym mine) ∙ (e ∙ ap (λ (t : NodeVote). t.accepted) (sym theirs))) in
        let d : (votes us i).length ≡ (votes vs i).length = ap (λ (t : NodeVote). t.length) mine in
        let f : (votes vs m).length ≡ (votes c.was m).length = ap (λ (t : NodeVote). t.length) theirs in
        omega arith

    off : (votes us i).leading ≡ false
    off = ap (λ (t : NodeVote). t.leading) mine ∙ leading_off (votes c.was i) (votes vs i) c.change up

    led : Led G.nodes (votes us) (packet i (Adopt m (votes c.was m).accepted (votes c.was m).length) (votes c.was m).length ∷ x.by.ships.rest) m (votes c.was m).accepted (votes c.was m).length
    led = led_up G.nodes (votes c.was) (votes us) x.by.ships.rest m (votes c.was m).accepted (votes c.was m).length i ne only c.place.0 (changed_to G vs (Some m) i c).1 (ap (λ (t : NodeVote). t.node) mine ∙ c.node) off
        (subst (λ (t : NodeVote). t.accepted ≤ t.promised) (sym mine) may.covered) short (x.by.ships.fits m (votes c.was m).accepted (votes c.was m).length ne) c.cluster.led

    queue : numbers r ≡ packet i (Adopt m (votes c.was m).accepted (votes c.was m).length) (votes c.was m).length ∷ x.by.ships.rest
    queue = behind_nothing q ps r none behind
        ∙ (x.by.ships.first ∙ (ap (λ (z : NodeVote). packet i (Adopt z.node z.accepted z.length) z.length ∷ x.by.ships.rest) theirs ∙ ap (λ j. packet i (Adopt j (votes c.was m).accepted (votes c.was m).length) (votes c.was m).length ∷ x.by.ships.rest) c.cluster.led.leads.node))

pub joined_after : (G : Setting) (vs us : List Stored) (q r ps : List packets.SentPacket) (m i : ℕ) (master : Option ℕ) (last next : Option (List (ℕ × Event))) → IsChanged G vs (Some m) i → (i ≡ m → ⊥) → (votes vs i).up ≡ true → MayFollow (votes vs i) (votes vs m) → HasShippedAt m i ps last vs us next
    → q ≡ [] → r ≡ q ++ ps → master ≡ Some m → IsAfter G vs us r master
joined_after G vs us q r ps m i master last next c ne up may x none behind to = record {
  cluster = subst (λ z. IsCluster G us r z) (sym to) (joined_so G vs us q r ps m i last next c ne up may x none behind);
  passed = knows_passes m vs us (changed_place G vs m i c) x.knows;
}

pub seen_joined : (G : Setting) (vs us : List Stored) (ps : List packets.SentPacket) (m i : ℕ) (was master : Option ℕ) (last next : Option (List (ℕ × Event))) → IsChanged G vs (Some m) i → HasShippedAt m i ps last vs us next → was ≡ Some m → master ≡ Some m → HasSeen i last vs was us master next
seen_joined G vs us ps m i was master last next c x is to = record {
  turns = takes_at vs us m x.knows.node last next (changed_place G vs m i c) x.knows.put x.by.turn;
  leads = subst (λ z. LeadsStill vs i z master) (sym is) (λ ne may. to);
}

pub known_at : (vs us : List Stored) (m : ℕ) (v u : Stored) → HasPlace vs m → v ≡ get_or vs (m - 1) v → us ≡ slice_set vs (m - 1) u → IsAsBefore (held_of v) (held_of u) → u.over ≡ v.over → KnowsMoreAt m vs us
known_at vs us m v u place at put same over = record {
  node = u;
  put = put;
  same = subst (λ (t : Stored). IsAsBefore (held_of t) (held_of u)) (sym (placed vs m v place.0 place.1 at)) same;
  over = subst (λ (t : Stored). u.over ≡ t.over) (sym (placed vs m v place.0 place.1 at)) over;
}

pub shipped_at : {E : Type 0} (r : Result (Vec packets.SentPacket Global) E) (vs us : List Stored) (m to : ℕ) (last next : Option (List (ℕ × Event))) (v u : Stored) → HasPlace vs m → v ≡ get_or vs (m - 1) v → us ≡ slice_set vs (m - 1) u → IsAsBefore (held_of v) (held_of u) → u.over ≡ v.over
    → IfOk r (λ ps. HasShipped to ps.items last v u next) → IfOk r (λ ps. HasShippedAt m to ps.items last vs us next)
unfolding known_at
shipped_at (Ok ps) vs us m to last next v u place at put same over s = record {
  knows = known_at vs us m v u place at put same over;
  by = subst (λ (t : Stored). HasShipped to ps.items last t u next) (sym (placed vs m v place.0 place.1 at)) s;
}
shipped_at (Err e) vs us m to last next v u place at put same over s = tt

-- a node that went down, or came up, is one that changed alone
changed : (G : Setting) (vs us : List Stored) (q : List packets.SentPacket) (master : Option ℕ) (i : ℕ) (v u : Stored) → IsCluster G vs q master → q ≡ [] → 0 < i → i ≤ length vs → v ≡ get_or vs (i - 1) v → us ≡ slice_set vs (i - 1) u
    → u.vote.node ≡ v.vote.node → (u.vote.up ≡ false) ⊎ ((v.vote.up ≡ false) × (u.vote.leading ≡ false)) → IsChanged G us master i
changed G vs us q master i v u k none low high at put named change = record {
  was = vs;
  cluster = subst (λ t. IsCluster G vs t master) none k;
  place = (low, high);
  only = put ∙ ap (λ t. slice_set vs (i - 1) t) (sym mine);
  node = ap (λ (t : Stored). t.vote.node) mine ∙ (named ∙ (ap (λ (t : Stored). t.vote.node) (sym theirs) ∙ k.nodes.placed i low inside));
  change = either change;
}
  where
    mine : node_at us i ≡ u
    mine = ap (λ t. node_at t i) put ∙ place_self vs i u low high

    theirs : node_at vs i ≡ v
    theirs = placed vs i v low high at

    inside : i ≤ G.nodes
    inside = let s : length vs ≡ G.nodes = k.nodes.size in omega arith

    either : (u.vote.up ≡ false) ⊎ ((v.vote.up ≡ false) × (u.vote.leading ≡ false)) → ((votes us i).up ≡ false) ⊎ (((votes vs i).up ≡ false) × ((votes us i).leading ≡ false))
    either (inl down) = inl (ap (λ (t : Stored). t.vote.up) mine ∙ down)
    either (inr woke) = inr (ap (λ (t : Stored). t.vote.up) theirs ∙ woke.0, ap (λ (t : Stored). t.vote.leading) mine ∙ woke.1)

pub changed_by_fall : (G : Setting) (vs us : List Stored) (q : List packets.SentPacket) (master : Option ℕ) (i : ℕ) (v u : Stored) (fault : Bool) → IsCluster G vs q master → q ≡ [] → 0 < i → i ≤ length vs → v ≡ get_or vs (i - 1) v → us ≡ slice_set vs (i - 1) u
    → Falls fault (held_of v) (held_of u) → IsChanged G us master i
changed_by_fall G vs us q master i v u fault k none low high at put f =
    changed G vs us q master i v u k none low high at put (ap (λ (t : NodeVote). t.node) f.vote) (inl (ap (λ (t : NodeVote). t.up) f.vote))

pub changed_by_waking : (G : Setting) (vs us : List Stored) (q : List packets.SentPacket) (master : Option ℕ) (i : ℕ) (v u : Stored) (how : Woken) (k : Kept) → IsCluster G vs q master → q ≡ [] → 0 < i → i ≤ length vs → v ≡ get_or vs (i - 1) v
    → us ≡ slice_set vs (i - 1) u → v.vote.up ≡ false → Wakes how k (held_of v) (held_of u) → IsChanged G us master i
changed_by_waking G vs us q master i v u how k c none low high at put down w =
    changed G vs us q master i v u c none low high at put (ap (λ (t : NodeVote). t.node) w.vote) (inr (down, ap (λ (t : NodeVote). t.leading) w.vote))
