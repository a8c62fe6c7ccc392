-- A leader that answers a begin shipped a log that is as long, and it is one of the nodes.
use Rattle.std.proofs.Common.{ℕ, ◌≡◌, ◌≤◌, List, [], ◌∷◌, length, arith, refl, sym, subst}
use Rattle.std.specs.Prelude.{true}
use mathlib.Core.Logic.{◌⊎◌, inl, inr}
use Rattle.core_lists.specs.Lists.{In, Each, Has}
use Rattle.core_lists.specs.Lists.In.{there}
use Rattle.core_lists.proofs.Lists.{each_add, each_none, each_more, nothing}
use Rattle.cluster_consensus.specs.Enabled.{Enabled}
use Rattle.cluster_consensus.specs.Events.{NodeEvent, change}
use Rattle.cluster_consensus.specs.Events.NodeEvent.{Lead, Append, Probe, Down, Asks}
use Rattle.cluster_consensus.specs.Facts.{Claim, Own, Ping, World}
use Rattle.cluster_consensus.specs.Histories.{Legal, after}
use Rattle.cluster_consensus.proofs.Kept.{at_node}
use Rattle.cluster_consensus.proofs.Laws.{known_within}
use Rattle.cluster_events.specs.Guards.{IsActedBy, IsLegalHistory, MayDo}
use Rattle.cluster_events.specs.Parts.{ActorEvent, add_act, acts, field}
use Rattle.cluster_events.specs.Settings.{Setting}
use Rattle.cluster_facts.proofs.ToldLaws.{shipping}
use Rattle.cluster_requests.specs.KeptEntries.{KeptEntry}
use Rattle.cluster_requests.specs.Requests.{field_after}

pub record IsReached {E : Type 0} (o : Own E) (x : Ping) : Type 0 where
  pub ship : Has (λ s. (s.gen ≡ x.gen) × (x.durable ≤ length s.log)) o.ships

reached_on : {E : Type 0} (o p : Own E) → ((x : Claim E) → In x o.ships → In x p.ships) → Each (IsReached o) o.pings → Each (IsReached p) o.pings
reached_on o p on all = each_more (λ x k. record { ship = record { it = k.ship.it; mem = on k.ship.it k.ship.mem; is = k.ship.is } }) all

reached_row : {E : Type 0} (n : ℕ) (h : List (ℕ × NodeEvent E)) (i : ℕ) (e : NodeEvent E) → Legal n h → Enabled n (after h) i ((after h).nodes i) e → Each (IsReached ((after h).nodes i)) ((after h).nodes i).pings
    → Each (IsReached (change i ((after h).nodes i) e)) (change i ((after h).nodes i) e).pings
reached_row {E} n h i (Probe t) legal en all =
    let o : Own E = (after h).nodes i in
    let s = shipping n i h legal en.1 in
    let w : ((after h).nodes i).durable ≤ length ((after h).nodes i).log = known_within n i h legal in
    let long : ((after h).nodes i).durable ≤ length s.it.log = subst (λ l. ((after h).nodes i).durable ≤ length l) (sym s.is.1) w in
    each_add (record { ship = record { it = s.it; mem = s.mem; is = (s.is.0, long) } }) (reached_on o (change i o (Probe t)) (λ x m. m) all)
reached_row n h i Lead legal en all = reached_on ((after h).nodes i) (change i ((after h).nodes i) Lead) (λ x m. there m) all
reached_row n h i (Append e) legal en all = reached_on ((after h).nodes i) (change i ((after h).nodes i) (Append e)) (λ x m. there m) all
reached_row n h i _ legal en all = reached_on ((after h).nodes i) _ (λ x m. m) all

pub reached : {E : Type 0} (n : ℕ) (h : List (ℕ × NodeEvent E)) → Legal n h → (k : ℕ) → Each (IsReached ((after h).nodes k)) ((after h).nodes k).pings
reached n [] legal k = each_none
reached {E} n (x ∷ h) legal k =
    let w : World E = after h in
    at_node w x.0 x.1 (λ j o. Each (IsReached o) o.pings) k (reached_row n h x.0 x.1 legal.1 legal.0 (reached n h legal.1 x.0)) (reached n h legal.1 k)

-- a node that answers is one of n
abbrev pub PingsOf : ℕ → ℕ → Own KeptEntry → Type 0
PingsOf n k o = (x : Ping) → In x o.pings → (1 ≤ k) × (k ≤ n)

new_pings : (n i : ℕ) (o : Own KeptEntry) (e : NodeEvent KeptEntry) → IsActedBy n i e → PingsOf n i o → PingsOf n i (change i o e)
new_pings n i o (Probe t) by old x m = by
new_pings n i o _ by old x m = old x m

pings_step : (G : Setting) (g : List (ℕ × ActorEvent)) (i : ℕ) (e : ActorEvent) → MayDo G g i e → ((k : ℕ) → PingsOf G.nodes k ((field g).core.nodes k)) → (k : ℕ) → PingsOf G.nodes k ((field_after (add_act i e (acts g))).core.nodes k)
pings_step G g i (ActorEvent.Node e) may old k = at_node (field g).core i e (λ j o. PingsOf G.nodes j o) k (new_pings G.nodes i ((field g).core.nodes i) e may.2 (old i)) (old k)
pings_step G g i ActorEvent.Stop may old k = at_node (field g).core i Down (λ j o. PingsOf G.nodes j o) k (old i) (old k)
pings_step G g i (ActorEvent.Ask t) may old k = at_node (field g).core i (Asks t) (λ j o. PingsOf G.nodes j o) k (old i) (old k)
pings_step G g i _ may old k = old k

pub pings_of_nodes : (G : Setting) (g : List (ℕ × ActorEvent)) → IsLegalHistory G g → (k : ℕ) → PingsOf G.nodes k ((field g).core.nodes k)
pings_of_nodes G [] legal k = λ x m. absurd (nothing m)
pings_of_nodes G (x ∷ g) legal k = pings_step G g x.0 x.1 legal.0 (pings_of_nodes G g legal.1) k
