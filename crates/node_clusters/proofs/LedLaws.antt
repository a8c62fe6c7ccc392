-- A cluster that is led, and one in an election, while packets are delivered.
use Rattle.std.proofs.Common.{ℕ, ◌≡◌, ◌+◌, ◌-◌, ◌<◌, ◌≤◌, List, [], ◌++◌, length, slice_set, arith, sym, subst, ap, ◌∙◌}
use Rattle.std.specs.Prelude.{Bool, true, false, Option, None, Some}
use mathlib.Core.Logic.{◌⊎◌, inl, inr}
use Rattle.cluster_events.specs.Settings.{Setting}
use Rattle.cluster_steps.specs.declared.events.Event.{Event}
use Rattle.election_core.specs.Counted.{acted}
use Rattle.election_core.specs.declared.messages.Action.TheVariants as action
use Rattle.election_core.specs.declared.votes.NodeVote.{NodeVote}
use Rattle.node_clusters.proofs.PacketLaws.{numbers_join}
use Rattle.node_clusters.proofs.PassLaws.{all_pass_themselves, all_pass_then}
use Rattle.node_clusters.proofs.PlaceLaws.{place_other, place_self}
use Rattle.node_clusters.proofs.UpLaws.{fewer_by, majority_before, no_more_up}
use Rattle.node_clusters.specs.Clusters.{ArePlaced, HasMajority, HasPlace, IsAfter, IsAlone, IsCluster, IsLedBy, IsOther, IsQuiet, IsStill, up_count}
use Rattle.node_clusters.specs.Elections.{IsDecided, IsIfLeading, IsKept, IsStanding}
use Rattle.node_clusters.specs.Numbers.{numbers}
use Rattle.node_clusters.specs.Passes.{PassAll}
use Rattle.node_clusters.specs.Places.{node_at, votes}
use Rattle.node_clusters.specs.UnderWay.{HasRun}
use Rattle.node_state.specs.Packets.{SentPacket}
use Rattle.node_state.specs.Stores.{Stored}
use Rattle.quiet_cluster.proofs.Ends.{led_down}
use Rattle.quiet_cluster.proofs.Lists.{same_or}
use Rattle.quiet_cluster.proofs.Runs.{elected, led_is_quiet, run_kept, run_led, run_polled}
use Rattle.quiet_cluster.proofs.Starts.{appends, stands}
use Rattle.quiet_cluster.specs.Deliveries.{OnlyAt, Run}
use Rattle.quiet_cluster.specs.Led.{Led, LedAlone, NobodyAbove}
use Rattle.quiet_cluster.specs.Packets.{Packet, appending_packets, standing_packets}
use Rattle.quiet_cluster.specs.Polled.{Best, Polled}

pub still_placed : (G : Setting) (vs us : List Stored) → ArePlaced G vs → PassAll vs us → ArePlaced G us
still_placed G vs us a p = record { size = p.size ∙ a.size; few = a.few; placed = λ k low high. (p.each k).node ∙ a.placed k low high }

-- nobody is known to lead
pub unled : (G : Setting) (vs us : List Stored) (q r : List SentPacket) (master : Option ℕ) → IsCluster G vs q master → PassAll vs us → IsCluster G us r None
unled G vs us q r master c p = record { nodes = still_placed G vs us c.nodes p; led = tt }

pub unled_after : (G : Setting) (vs us : List Stored) (q r : List SentPacket) (was master : Option ℕ) → IsCluster G vs q was → PassAll vs us → master ≡ None → IsAfter G vs us r master
unled_after G vs us q r was master c p e = record { cluster = subst (λ z. IsCluster G us r z) (sym e) (unled G vs us q r was c p); passed = p }

pub unled_first : (G : Setting) (vs us : List Stored) (q : List SentPacket) (master : Option ℕ) → ArePlaced G vs → us ≡ vs → master ≡ None → IsCluster G us q master
unled_first G vs us q master p same e = subst (λ z. IsCluster G us q z) (sym e) (record { nodes = subst (λ t. ArePlaced G t) (sym same) p; led = tt })

-- nothing was done; one thing after the other
pub same_after : (G : Setting) (vs : List Stored) (q : List SentPacket) (master : Option ℕ) → IsCluster G vs q master → IsAfter G vs vs q master
same_after G vs q master c = record { cluster = c; passed = all_pass_themselves vs }

pub after_then : (G : Setting) (vs us ws : List Stored) (q r : List SentPacket) (mid master : Option ℕ) → IsAfter G vs us q mid → IsCluster G ws r master → PassAll us ws → IsAfter G vs ws r master
after_then G vs us ws q r mid master a c p = record { cluster = c; passed = all_pass_then vs us ws a.passed p }

pub after_both : (G : Setting) (vs us ws : List Stored) (q r : List SentPacket) (mid master : Option ℕ) → IsAfter G vs us q mid → IsAfter G us ws r master → IsAfter G vs ws r master
after_both G vs us ws q r mid master a b = after_then G vs us ws q r mid master a b.cluster b.passed

-- by the numbers that the leader has
pub its_own : (n : ℕ) (at : ℕ → NodeVote) (q : List Packet) (m g l : ℕ) → Led n at q m g l → Led n at q m (at m).accepted (at m).length
its_own n at q m g l x = subst (λ h. Led n at q m h (at m).length) (sym x.leads.accepted) (subst (λ k. Led n at q m g k) (sym x.leads.long) x)

led_on : (G : Setting) (vs us : List Stored) (q : List SentPacket) (m : ℕ) → IsLedBy G vs q m → Run (votes vs) (numbers q) (votes us) → (votes us m).up ≡ true → IsLedBy G us [] m
led_on G vs us q m x run up = its_own G.nodes (votes us) [] m (votes vs m).accepted (votes vs m).length (run_kept G.nodes m (votes vs m).accepted (votes vs m).length x run up)

led_idle : (G : Setting) (us : List Stored) (r : List SentPacket) (m : ℕ) → r ≡ [] → IsLedBy G us [] m → IsLedBy G us r m
led_idle G us r m e x = subst (λ t. IsLedBy G us t m) (sym e) x

-- a queue that was run empty
ran : (G : Setting) (vs us : List Stored) (q r : List SentPacket) (was master : Option ℕ) → IsCluster G vs q was → PassAll vs us → Run (votes vs) (numbers q) (votes us) → r ≡ [] → IsStill us was master → IsCluster G us r master
ran G vs us q r None master c p run e still = subst (λ t. IsCluster G us r t) (sym still) (unled G vs us q r None c p)
ran G vs us q r (Some m) master c p run e (inl t) =
    subst (λ z. IsCluster G us r z) (sym t.1) (record { nodes = still_placed G vs us c.nodes p; led = led_idle G us r m e (led_on G vs us q m c.led run t.0) })
ran G vs us q r (Some m) master c p run e (inr t) = subst (λ z. IsCluster G us r z) (sym t.1) (unled G vs us q r (Some m) c p)

pub ran_after : (G : Setting) (vs us : List Stored) (q r : List SentPacket) (was master : Option ℕ) (last next : Option (List (ℕ × Event))) → IsCluster G vs q was → PassAll vs us → HasRun vs q last us next → r ≡ [] → IsStill us was master → IsAfter G vs us r master
ran_after G vs us q r was master last next c p run e still = record { cluster = ran G vs us q r was master c p run.run e still; passed = p }

-- as many nodes as the run has, and few
pub sized : (G : Setting) (vs : List Stored) (q : List SentPacket) (master : Option ℕ) → IsCluster G vs q master → length vs ≡ G.nodes
sized G vs q master c = c.nodes.size

pub few_nodes : (G : Setting) (vs : List Stored) (q : List SentPacket) (master : Option ℕ) → IsCluster G vs q master → length vs ≤ 7
few_nodes G vs q master c = let a : length vs ≡ G.nodes = c.nodes.size in let b : G.nodes ≤ 7 = c.nodes.few in omega arith

-- in the end all is quiet
pub quiet_so : (G : Setting) (vs : List Stored) (q : List SentPacket) (master : Option ℕ) → IsCluster G vs q master → q ≡ [] → IsAlone vs master → HasMajority G vs → IsQuiet G vs master
quiet_so G vs q None c e alone many = absurd alone
quiet_so G vs q (Some m) c e alone many =
    led_is_quiet G.nodes (votes vs) m (votes vs m).accepted (votes vs m).length (record { led = subst (λ t. IsLedBy G vs t m) e c.led; below = alone }) many

-- one node changes
pub only_at : (vs us : List Stored) (i : ℕ) (u : Stored) → 0 < i → us ≡ slice_set vs (i - 1) u → OnlyAt i (votes vs) (votes us)
only_at vs us i u low put = λ k ne. ap (λ (t : Stored). t.vote) (ap (λ t. node_at t k) put ∙ place_other vs i u k low ne)

its_place : (vs us : List Stored) (i : ℕ) (u : Stored) → 0 < i → i ≤ length vs → us ≡ slice_set vs (i - 1) u → votes us i ≡ u.vote
its_place vs us i u low high put = ap (λ (t : Stored). t.vote) (ap (λ t. node_at t i) put ∙ place_self vs i u low high)

pub behind_nothing : (q ps r : List SentPacket) → q ≡ [] → r ≡ q ++ ps → numbers r ≡ numbers ps
behind_nothing q ps r none e = ap numbers e ∙ (numbers_join q ps ∙ ap (λ t. t ++ numbers ps) (ap numbers none))

-- it stands
pub stands_so : (G : Setting) (vs us : List Stored) (q r ps : List SentPacket) (c g : ℕ) (u : Stored) → Best G.nodes (votes vs) c g → HasPlace vs c → us ≡ slice_set vs (c - 1) u
    → u.vote ≡ acted (votes vs c) (action.Promise g (votes vs c).node) → numbers ps ≡ standing_packets u.vote g → q ≡ [] → r ≡ q ++ ps → IsStanding G us r c
stands_so G vs us q r ps c g u best place put changed sent none behind = record {
  generation = g;
  accepted = (votes vs c).accepted;
  length = (votes vs c).length;
  polled = subst (λ t. Polled G.nodes (votes us) t c g (votes vs c).accepted (votes vs c).length) (sym (behind_nothing q ps r none behind ∙ (sent ∙ ap (λ t. standing_packets t g) (sym mine))))
      (stands G.nodes (votes vs) (votes us) c g best (only_at vs us c u place.0 put) (mine ∙ changed));
}
  where
    mine : votes us c ≡ u.vote
    mine = its_place vs us c u place.0 place.1 put

-- its store failed
pub fell_so : (vs us : List Stored) (c : ℕ) (u : Stored) → PassAll vs us → (votes vs c).up ≡ true → HasPlace vs c → us ≡ slice_set vs (c - 1) u → u.vote.up ≡ false → up_count us < up_count vs
fell_so vs us c u p was place put down = fewer_by vs us c p place.0 place.1 was (ap (λ (t : NodeVote). t.up) (its_place vs us c u place.0 place.1 put) ∙ down)

-- and whoever led leads on
pub others_lead : (G : Setting) (vs us : List Stored) (q r : List SentPacket) (c : ℕ) (u : Stored) (was master : Option ℕ) → IsCluster G vs q was → PassAll vs us → HasPlace vs c → us ≡ slice_set vs (c - 1) u → u.vote.up ≡ false
    → r ≡ q → IsOther was c master → IsCluster G us r master
others_lead G vs us q r c u None master k p place put down e other = subst (λ t. IsCluster G us r t) (sym other) (unled G vs us q r None k p)
others_lead G vs us q r c u (Some m) master k p place put down e (inr t) = subst (λ z. IsCluster G us r z) (sym t.1) (unled G vs us q r (Some m) k p)
others_lead G vs us q r c u (Some m) master k p place put down e (inl t) =
    let only = only_at vs us c u place.0 put in
    let fell : (votes us c).up ≡ false = ap (λ (x : NodeVote). x.up) (its_place vs us c u place.0 place.1 put) ∙ down in
    let led = its_own G.nodes (votes us) (numbers q) m (votes vs m).accepted (votes vs m).length (led_down G.nodes (votes vs) (votes us) (numbers q) m (votes vs m).accepted (votes vs m).length c (λ x. t.0 (sym x)) only fell k.led) in
    subst (λ z. IsCluster G us r z) (sym t.1) (record { nodes = still_placed G vs us k.nodes p; led = subst (λ z. IsLedBy G us z m) (sym e) led })

-- an election that was run to its end
alone_of : (G : Setting) (us : List Stored) (c g l : ℕ) → LedAlone G.nodes (votes us) [] c g l → IsLedBy G us [] c × NobodyAbove (votes us) (votes us c).accepted
alone_of G us c g l x = (its_own G.nodes (votes us) [] c g l x.led, subst (λ h. NobodyAbove (votes us) h) (sym x.led.leads.accepted) x.below)

pub polled_so : (G : Setting) (vs us : List Stored) (q r : List SentPacket) (c : ℕ) (u : NodeVote) (was master : Option ℕ) → IsCluster G vs q was → PassAll vs us → IsStanding G vs q c → Run (votes vs) (numbers q) (votes us) → r ≡ []
    → u ≡ votes us c → IsIfLeading u c master → IsCluster G us r master
polled_so G vs us q r c u was master k p s run e at (inr t) = subst (λ z. IsCluster G us r z) (sym t.1) (unled G vs us q r was k p)
polled_so G vs us q r c u was master k p s run e at (inl t) =
    subst (λ z. IsCluster G us r z) (sym t.2) (record { nodes = still_placed G vs us k.nodes p; led = led_idle G us r c e (go (run_polled G.nodes c s.generation s.accepted s.length s.polled run (ap (λ (x : NodeVote). x.up) (sym at) ∙ t.0))) })
  where
    go : Polled G.nodes (votes us) [] c s.generation s.accepted s.length ⊎ LedAlone G.nodes (votes us) [] c s.generation s.length → IsLedBy G us [] c
    go (inl x) = absurd (let y : (votes us c).leading ≡ false = x.stands.follows in let z : (votes us c).leading ≡ true = ap (λ (w : NodeVote). w.leading) (sym at) ∙ t.1 in cc)
    go (inr x) = (alone_of G us c s.generation s.length x).0

pub decided_so : (G : Setting) (vs us : List Stored) (q : List SentPacket) (c : ℕ) (u : NodeVote) (master : Option ℕ) (b : Bool) → ArePlaced G vs → PassAll vs us → IsStanding G vs q c → Run (votes vs) (numbers q) (votes us)
    → u ≡ votes us c → IsIfLeading u c master → u.up ≡ b → IsDecided G vs us master b
decided_so G vs us q c u master true placed p s run at leads up = λ many. go (alone_of G us c s.generation s.length (x many)) (x many) leads
  where
    x : HasMajority G us → LedAlone G.nodes (votes us) [] c s.generation s.length
    x many = elected G.nodes c s.generation s.accepted s.length s.polled run (ap (λ (w : NodeVote). w.up) (sym at) ∙ up) many

    go : IsLedBy G us [] c × NobodyAbove (votes us) (votes us c).accepted → LedAlone G.nodes (votes us) [] c s.generation s.length → IsIfLeading u c master → IsAlone us master
    go a y (inl t) = subst (λ z. IsAlone us z) (sym t.2) a.1
    go a y (inr t) = absurd (t.0 up (ap (λ (w : NodeVote). w.leading) at ∙ y.led.leads.leading))
decided_so G vs us q c u master false placed p s run at leads up =
    let name = s.polled.named c s.polled.stands.up in
    fewer_by vs us c p name.0 (let h : c ≤ G.nodes = name.1 in let z : length vs ≡ G.nodes = placed.size in omega arith) s.polled.stands.up (ap (λ (w : NodeVote). w.up) (sym at) ∙ up)

-- it appends one entry
pub appends_so : (G : Setting) (vs us : List Stored) (q r ps : List SentPacket) (m : ℕ) (u : Stored) → IsCluster G vs q (Some m) → PassAll vs us → HasPlace vs m
    → us ≡ slice_set vs (m - 1) u → u.vote ≡ record (votes vs m) { length = (votes vs m).length + 1 } → numbers ps ≡ appending_packets u.vote 1 → q ≡ [] → r ≡ q ++ ps
    → IsCluster G us r (Some m) × (IsAlone vs (Some m) → IsAlone us (Some m))
appends_so G vs us q r ps m u k p place put changed sent none behind = (
  record { nodes = still_placed G vs us k.nodes p; led = its_own G.nodes (votes us) (numbers r) m (votes vs m).accepted ((votes vs m).length + 1) led },
  λ alone j up. above alone j up (same_or j m),
)
  where
    mine : votes us m ≡ u.vote
    mine = its_place vs us m u place.0 place.1 put

    only : OnlyAt m (votes vs) (votes us)
    only = only_at vs us m u place.0 put

    changes : votes us m ≡ record (votes vs m) { length = (votes vs m).length + 1 }
    changes = mine ∙ changed

    start : Led G.nodes (votes vs) [] m (votes vs m).accepted (votes vs m).length
    start = subst (λ t. Led G.nodes (votes vs) t m (votes vs m).accepted (votes vs m).length) (ap numbers none) k.led

    led : Led G.nodes (votes us) (numbers r) m (votes vs m).accepted ((votes vs m).length + 1)
    led = subst (λ t. Led G.nodes (votes us) t m (votes vs m).accepted ((votes vs m).length + 1)) (sym (behind_nothing q ps r none behind ∙ (sent ∙ ap (λ t. appending_packets t 1) (sym mine)))) (appends G.nodes (votes vs) (votes us) m (votes vs m).accepted (votes vs m).length only changes start)

    above : NobodyAbove (votes vs) (votes vs m).accepted → (j : ℕ) → (votes us j).up ≡ true → (j ≡ m) ⊎ (j ≡ m → ⊥) → (votes us j).promised ≤ (votes us m).accepted
    above alone j up (inl e) =
        let a : (votes vs m).promised ≤ (votes vs m).accepted = alone m k.led.leads.up in
        let b : (votes us j).promised ≡ (votes vs m).promised = ap (λ i. (votes us i).promised) e ∙ ap (λ (t : NodeVote). t.promised) changes in
        let d : (votes us m).accepted ≡ (votes vs m).accepted = ap (λ (t : NodeVote). t.accepted) changes in
        omega arith
    above alone j up (inr ne) =
        let a : (votes vs j).promised ≤ (votes vs m).accepted = alone j (ap (λ (t : NodeVote). t.up) (sym (only j ne)) ∙ up) in
        let b : (votes us j).promised ≡ (votes vs j).promised = ap (λ (t : NodeVote). t.promised) (only j ne) in
        let d : (votes us m).accepted ≡ (votes vs m).accepted = ap (λ (t : NodeVote). t.accepted) changes in
        omega arith

-- it appends its setup
pub set_up_so : (G : Setting) (vs us : List Stored) (q r ps : List SentPacket) (m : ℕ) (u : Stored) (was master : Option ℕ) → IsCluster G vs q was → PassAll vs us → was ≡ Some m → (votes vs m).length ≡ 0 → HasPlace vs m
    → us ≡ slice_set vs (m - 1) u → u.vote ≡ record (votes vs m) { length = 1 } → numbers ps ≡ appending_packets u.vote 1 → q ≡ [] → r ≡ q ++ ps → master ≡ Some m
    → IsCluster G us r master × ((master ≡ Some m) × (IsAlone vs master → IsAlone us master))
set_up_so G vs us q r ps m u was master k p is empty place put changed sent none behind to = (
  subst (λ z. IsCluster G us r z) (sym to) both.0,
  (to, λ alone. subst (λ z. IsAlone us z) (sym to) (both.1 (subst (λ z. IsAlone vs z) to alone))),
)
  where
    both : IsCluster G us r (Some m) × (IsAlone vs (Some m) → IsAlone us (Some m))
    both = appends_so G vs us q r ps m u (subst (λ z. IsCluster G vs q z) is k) p place put (changed ∙ ap (λ l. record (votes vs m) { length = l + 1 }) (sym empty)) sent none behind

-- and the setup was taken by all that are up, or the leader fell
pub shipped_so : (G : Setting) (vs us ws : List Stored) (q : List SentPacket) (m : ℕ) (was mid master : Option ℕ) (b : Bool) → was ≡ Some m → PassAll vs us → PassAll us ws → IsCluster G us q mid → (mid ≡ Some m) × (IsAlone vs mid → IsAlone us mid)
    → Run (votes us) (numbers q) (votes ws) → IsStill ws mid master → b ≡ (votes ws m).up → IsKept G vs was ws master b
shipped_so G vs us ws q m was mid master true is x y k s run still up = λ many alone. go (subst (λ z. IsStill ws z master) s.0 still) (s.1 (subst (λ z. IsAlone vs z) (is ∙ sym s.0) alone))
  where
    led : IsLedBy G us q m
    led = (subst (λ z. IsCluster G us q z) s.0 k).led

    go : IsStill ws (Some m) master → IsAlone us mid → IsAlone ws master
    go (inl t) alone =
        let a : LedAlone G.nodes (votes us) (numbers q) m (votes us m).accepted (votes us m).length = record { led = led; below = subst (λ z. IsAlone us z) s.0 alone } in
        subst (λ z. IsAlone ws z) (sym t.1) (alone_of G ws m (votes us m).accepted (votes us m).length (run_led G.nodes m (votes us m).accepted (votes us m).length a run t.0)).1
    go (inr t) alone = absurd (let z : (votes ws m).up ≡ false = t.0 in cc)
shipped_so G vs us ws q m was mid master false is x y k s run still up =
    let led = (subst (λ z. IsCluster G us q z) s.0 k).led in
    let name = led.named m led.leads.up in
    let size : length us ≡ G.nodes = k.nodes.size in
    let low : 0 < m = name.0 in
    let high : m ≤ G.nodes = name.1 in
    let lt = fewer_by us ws m y low (omega arith) led.leads.up (sym up) in
    let le = no_more_up vs us x in
    omega arith

-- one part of an election after the other
pub lost_later : (vs us ws : List Stored) → PassAll vs us → up_count ws < up_count us → up_count ws < up_count vs
lost_later vs us ws x lt = let le = no_more_up vs us x in omega arith

pub decided_then : (G : Setting) (vs us ws : List Stored) (was master : Option ℕ) (b : Bool) → PassAll vs us → PassAll us ws → IsDecided G vs us was true → IsKept G us was ws master b → IsDecided G vs ws master b
decided_then G vs us ws was master true x y d k = λ many. k many (d (majority_before G us ws y many))
decided_then G vs us ws was master false x y d k = lost_later vs us ws x k
