-- What the store of the reported node may hold at the end, and the pages of its log.
use Rattle.std.proofs.Common.{ℕ, ◌≡◌, ◌+◌, ◌<◌, ◌≤◌, List, [], ◌∷◌, ◌++◌, length, map, arith, refl, sym, subst, ap, ◌∙◌}
use Rattle.std.specs.Prelude.{◌==◌, Bool, true, false, cond, Option, Some, None, slice_get}
use Rattle.std.proofs.lemmas.Bool.{cases_order}
use Rattle.std.proofs.lemmas.List.{map-append}
use mathlib.Core.Logic.{◌⊎◌, inl, inr}
use Rattle.cluster_consensus.proofs.FactSteps.{holds}
use Rattle.cluster_consensus.proofs.Generations.{comparable}
use Rattle.cluster_consensus.proofs.Invariant.{Inv}
use Rattle.cluster_consensus.proofs.Kept.{at_node}
use Rattle.cluster_consensus.specs.Enabled.{Below, CanGrow, CanTake, Enabled}
use Rattle.cluster_consensus.specs.Events.{NodeEvent, change}
use Rattle.cluster_consensus.specs.Events.NodeEvent.{Asks, Down}
use Rattle.cluster_consensus.specs.Facts.{Claim, Own, World}
use Rattle.cluster_core.proofs.BaseLaws.{stand_from}
use Rattle.cluster_core.specs.Kept.{ground_of}
use Rattle.cluster_events.specs.Guards.{IsActedBy, IsLegalHistory, MayDo}
use Rattle.cluster_events.specs.Parts.{ActorEvent, acts, add_act, field}
use Rattle.cluster_events.specs.Settings.{Setting}
use Rattle.cluster_masters.specs.FirstMaster.{IsFirstMaster}
use Rattle.cluster_masters.specs.Reported.{IsReported}
use Rattle.cluster_reports.proofs.BeyondLaws.{reported_in}
use Rattle.cluster_requests.specs.KeptEntries.{KeptEntry, plain}
use Rattle.cluster_requests.specs.Requests.{Field, field_after}
use Rattle.cluster_steps.proofs.StepLaws.{inv_of, legal_steps}
use Rattle.cluster_steps.specs.Guards.{AreLegalSteps}
use Rattle.cluster_steps.specs.Named.{back_append, kept_over, log_named, named_up, steps, world}
use Rattle.cluster_steps.specs.declared.events.Event.{Event}
use Rattle.cluster_steps.specs.declared.events.Woken.{Woken}
use Rattle.cluster_steps.specs.declared.events.Woken.TheVariants as woken
use Rattle.core_lists.proofs.Fronts.{front_length, front_same}
use Rattle.core_lists.proofs.Lists.{nothing}
use Rattle.core_lists.specs.Fronts.{Front}
use Rattle.core_lists.specs.Lists.{Has, In}
use Rattle.kept_log.specs.Kept.{Kept, kept}
use Rattle.log_rows.specs.History.{StandsOver, tables_of}
use Rattle.node_state.specs.Restarts.{MayWake, MayWakeAny}
use Rattle.phys_log.specs.declared.entries.Entry.{Entry}
use Rattle.phys_log.specs.declared.entries.Entry.TheVariants as entry
use Rattle.run_results.specs.Stores.{AreStoresOf}
use Rattle.store_log.specs.Keeps.{Stored}
use Rattle.run_stores.specs.Reported.{AllAreOrHaveMore, IsOrHasMore, StandForLog}

-- who led is one of the nodes
abbrev LeadsOf : ℕ → ℕ → Own KeptEntry → Type 0
LeadsOf n k o = (x : Claim KeptEntry) → In x o.leads → (1 ≤ k) × (k ≤ n)

new_leads : (n i : ℕ) (o : Own KeptEntry) (e : NodeEvent KeptEntry) → IsActedBy n i e → LeadsOf n i o → LeadsOf n i (change i o e)
new_leads n i o NodeEvent.Lead by old x m = by
new_leads n i o NodeEvent.BackLead by old x m = by
new_leads n i o _ by old x m = old x m

leads_step : (G : Setting) (g : List (ℕ × ActorEvent)) (i : ℕ) (e : ActorEvent) → MayDo G g i e → ((k : ℕ) → LeadsOf G.nodes k ((field g).core.nodes k)) → (k : ℕ) → LeadsOf G.nodes k ((field_after (add_act i e (acts g))).core.nodes k)
leads_step G g i (ActorEvent.Node e) may old k = at_node (field g).core i e (λ j o. LeadsOf G.nodes j o) k (new_leads G.nodes i ((field g).core.nodes i) e may.2 (old i)) (old k)
leads_step G g i ActorEvent.Stop may old k = at_node (field g).core i Down (λ j o. LeadsOf G.nodes j o) k (old i) (old k)
leads_step G g i (ActorEvent.Ask t) may old k = at_node (field g).core i (Asks t) (λ j o. LeadsOf G.nodes j o) k (old i) (old k)
leads_step G g i _ may old k = old k

leads_of_nodes : (G : Setting) (g : List (ℕ × ActorEvent)) → IsLegalHistory G g → (k : ℕ) → LeadsOf G.nodes k ((field g).core.nodes k)
leads_of_nodes G [] legal k = λ x m. absurd (nothing m)
leads_of_nodes G (x ∷ g) legal k = leads_step G g x.0 x.1 legal.0 (leads_of_nodes G g legal.1) k

-- pairs of generation and length
below_two : (a b c x y z : ℕ) → a ≤ b → (a ≡ b → x ≤ y) → Below b y c z → Below a x c z
below_two a b c x y z le same (inl less) = inl (omega (arith, le, less))
below_two a b c x y z le same (inr e) = elim (cases_order a b) [
  | inl q ↦ inr (q ∙ e.0, (let p : x ≤ y = same q in let t : y ≤ z = e.1 in omega arith))
  | inr other ↦ elim other [
    | inl less ↦ inl (let q : b ≡ c = e.0 in omega (arith, less))
    | inr more ↦ absurd (omega (arith, le, more))
  ]
]

not_longer : (a x b y : ℕ) → a ≡ b → Below a x b y → x ≤ y
not_longer a x b y same (inl less) = absurd (omega (arith, same, less))
not_longer a x b y same (inr e) = e.1

not_above : (a x b y : ℕ) → Below a x b y → a ≤ b
not_above a x b y (inl less) = omega (arith, less)
not_above a x b y (inr e) = let q : a ≡ b = e.0 in omega arith

-- whatever was shipped has no greater pair than the reported node
shipped_below : (n : ℕ) (w : World KeptEntry) (r m : ℕ) (s : Claim KeptEntry) → Inv n w → ((j : ℕ) → LeadsOf n j (w.nodes j)) → IsReported n w r → In s (w.nodes m).ships → Below s.gen (length s.log) (w.nodes r).accepted (length (w.nodes r).log)
shipped_below n w r m s inv of_nodes top mem =
    let ok = (inv.local m).ships.at s mem in
    let last = (inv.local m).last.at s ok.1 in
    let place = of_nodes m ok.0.it ok.0.mem in
    let one : 1 ≤ m = place.0 in
    let pos : 0 < m = omega arith in
    below_two s.gen (w.nodes m).accepted (w.nodes r).accepted (length s.log) (length (w.nodes m).log) (length (w.nodes r).log) last.0 (λ same. front_length (last.1 same)) (top m pos place.1)

-- so there is no log that it was about to take
none_taken : (n : ℕ) (w : World KeptEntry) (r g : ℕ) (l : List KeptEntry) → Inv n w → ((j : ℕ) → LeadsOf n j (w.nodes j)) → IsReported n w r → CanTake w (w.nodes r) g l → ⊥
none_taken n w r g l inv of_nodes top can =
    let above : (w.nodes r).accepted < g = can.1 in
    let s = can.2.1 in
    let gen : s.it.gen ≡ g = s.is.0 in
    let low : s.it.gen ≤ (w.nodes r).accepted = not_above s.it.gen (length s.it.log) (w.nodes r).accepted (length (w.nodes r).log) (shipped_below n w r can.2.0 s.it inv of_nodes top s.mem) in
    omega (arith, above, gen, low)

same_accepted : (n : ℕ) (w : World KeptEntry) (j k : ℕ) (c d : Claim KeptEntry) → Inv n w → In c (w.nodes j).accepts → In d (w.nodes k).accepts → c.gen ≡ d.gen → length c.log ≡ length d.log → c.log ≡ d.log
same_accepted n w j k c d inv mc md gen long = elim (comparable inv j k c d mc md gen) [
  | inl f ↦ front_same f (omega (arith, long))
  | inr f ↦ sym (front_same f (omega (arith, long)))
]

-- and one that it was about to take on is the one that it has
grown_is : (n : ℕ) (w : World KeptEntry) (r : ℕ) (l : List KeptEntry) → Inv n w → ((j : ℕ) → LeadsOf n j (w.nodes j)) → IsReported n w r → CanGrow w (w.nodes r) l → l ≡ (w.nodes r).log
grown_is n w r l inv of_nodes top can = go s.is.2
  where
    o : Own KeptEntry
    o = w.nodes r

    s : Has (λ t. (t.gen ≡ o.accepted) × Front l t.log × ((length l ≡ length o.log + 1) ⊎ ((length l ≡ length o.log) × (length l ≡ length t.log)))) (w.nodes can.1).ships
    s = can.2

    ok : Has (λ t. t.gen ≡ s.it.gen) (w.nodes can.1).leads × In s.it (w.nodes can.1).accepts
    ok = (inv.local can.1).ships.at s.it s.mem

    short : length s.it.log ≤ length o.log
    short = not_longer s.it.gen (length s.it.log) o.accepted (length o.log) s.is.0 (shipped_below n w r can.1 s.it inv of_nodes top s.mem)

    go : (length l ≡ length o.log + 1) ⊎ ((length l ≡ length o.log) × (length l ≡ length s.it.log)) → l ≡ o.log
    go (inl more) = absurd (let f : length l ≤ length s.it.log = front_length s.is.1 in omega (arith, more, f, short))
    go (inr same) =
        let a : length l ≡ length o.log = same.0 in
        let b : length l ≡ length s.it.log = same.1 in
        let gen : ok.0.it.gen ≡ o.accepted = ok.0.is ∙ s.is.0 in
        let c = holds inv r can.1 ok.0.it ok.0.mem (omega (arith, gen)) in
        let long : length s.it.log ≡ length c.it.log = sym b ∙ (a ∙ sym (ap length c.is.1)) in
        front_same s.is.1 (omega (arith, b)) ∙ (same_accepted n w can.1 r s.it c.it inv ok.1 c.mem (s.is.0 ∙ sym c.is.0) long ∙ c.is.1)

-- what a node that is down may come up with, by the event of the core that has it come up
taken_log : (n : ℕ) (w : World KeptEntry) (r g : ℕ) (b : Bool) (l : List KeptEntry) (es : List Entry) → Inv n w → ((j : ℕ) → LeadsOf n j (w.nodes j)) → IsReported n w r → Enabled n w r (w.nodes r) (cond b (NodeEvent.BackGrow l) (NodeEvent.BackTake g l))
    → map plain (change r (w.nodes r) (cond b (NodeEvent.BackGrow l) (NodeEvent.BackTake g l))).log ≡ es → IsOrHasMore (map plain (w.nodes r).log) es
taken_log n w r g true l es inv of_nodes top en log = inl (sym log ∙ ap (λ (t : List KeptEntry). map plain t) (grown_is n w r l inv of_nodes top en.2))
taken_log n w r g false l es inv of_nodes top en log = absurd (none_taken n w r g l inv of_nodes top en.2)

plain_over : (l : List KeptEntry) (x : Entry) → plain (kept_over l x) ≡ x
plain_over l (entry.Setup generation schema records) = refl
plain_over l (entry.Commit generation id begin level changes records) = refl

appended_log : (i p : ℕ) (o : Own KeptEntry) (e : Option Entry) (es : List Entry) → map plain (change i o (back_append p o.log e)).log ≡ es → IsOrHasMore (map plain o.log) es
appended_log i p o None es log = inl (sym log)
appended_log i p o (Some e) es log = inr (e, sym log ∙ (map-append plain o.log (kept_over o.log e ∷ []) ∙ ap (λ (x : Entry). map plain o.log ++ x ∷ []) (plain_over o.log e)))

woken_log : (n : ℕ) (w : World KeptEntry) (r : ℕ) (how : Woken) (p a : ℕ) (es : List Entry) → Inv n w → ((j : ℕ) → LeadsOf n j (w.nodes j)) → IsReported n w r → (w.nodes r).was_up ≡ true → Enabled n w r (w.nodes r) (named_up n w (w.nodes r) how p a es)
    → map plain (change r (w.nodes r) (named_up n w (w.nodes r) how p a es)).log ≡ es → IsOrHasMore (map plain (w.nodes r).log) es
woken_log n w r (woken.First rows) p a es inv of_nodes top was en log = absurd (let never : (w.nodes r).was_up ≡ false = en.1 in let z : true ≡ false = sym was ∙ never in cc)
woken_log n w r woken.AsLeft p a es inv of_nodes top was en log = inl (sym log)
woken_log n w r woken.Led p a es inv of_nodes top was en log = inl (sym log)
woken_log n w r woken.Took p a es inv of_nodes top was en log = taken_log n w r a (a == (w.nodes r).accepted) (log_named n w a (length es)) es inv of_nodes top en log
woken_log n w r woken.Appended p a es inv of_nodes top was en log = appended_log r p (w.nodes r) (slice_get es (length (w.nodes r).log)) es log

all_woken : (G : Setting) (f : Field) (r : ℕ) (ks : List Kept) → Inv G.nodes f.core → ((j : ℕ) → LeadsOf G.nodes j (f.core.nodes j)) → IsReported G.nodes f.core r → (f.core.nodes r).was_up ≡ true → MayWakeAny G f r ks → AllAreOrHaveMore (map plain (f.core.nodes r).log) ks
all_woken G f r [] inv of_nodes top was may = tt
all_woken G f r (k ∷ ks) inv of_nodes top was may =
    let m : MayWake G f r may.0.0 k = may.0.1 in
    (woken_log G.nodes f.core r may.0.0 k.promised k.accepted k.entries inv of_nodes top was m.rises.may.0 m.rises.found.log, all_woken G f r ks inv of_nodes top was may.1)

-- the store of the reported node has its log
pub store_has : (G : Setting) (h : List (ℕ × Event)) (cluster : ℕ) (old new : List Stored) (place : ℕ) (o s : Stored) → AreStoresOf G h cluster old new → IsReported G.nodes (world G h) (place + 1) → ((world G h).nodes (place + 1)).was_up ≡ true
    → slice_get old place ≡ Some o → slice_get new place ≡ Some s → StandForLog (place + 1) cluster s.synced ((world G h).nodes (place + 1))
store_has G h cluster old new place o s are top was at_old at_new = go ((world G h).nodes (place + 1)).up refl
  where
    r : ℕ
    r = place + 1

    own : Own KeptEntry
    own = (world G h).nodes r

    go : (b : Bool) → own.up ≡ b → StandForLog r cluster s.synced own
    go true up = record {
      some = kept own.promised own.accepted (map plain own.log) ∷ [];
      stand = (are.each place o s at_old at_new).holds.1 up;
      all = (inl refl, tt);
      exact = λ _. refl;
    }
    go false down =
        let held = (are.each place o s at_old at_new).holds.2 was down in
        record {
          some = held.0;
          stand = held.1;
          all = all_woken G (field (steps G h)) r held.0 (inv_of G h are.legal) (leads_of_nodes G (steps G h) (legal_steps G h are.legal)) top was held.2;
          exact = λ up. absurd (let z : true ≡ false = sym up ∙ down in cc);
        }

-- the pages of the reported log stand from the base on
pub pages_from : (G : Setting) (h : List (ℕ × Event)) (m r : ℕ) (a : Claim KeptEntry) → AreLegalSteps G h → IsFirstMaster G.nodes (world G h) m a → IsReported G.nodes (world G h) r
    → StandsOver (ground_of a.log) (tables_of (map plain ((world G h).nodes r).log)) (map plain ((world G h).nodes r).log)
pages_from G h m r a legal first top =
    let inv = inv_of G h legal in
    let low : a.gen ≤ ((world G h).nodes r).accepted = reported_in inv r top m a first.mem first.durable a.gen a.log first.durable in
    let c = holds inv r m a first.mem low in
    let gen : c.it.gen ≡ ((world G h).nodes r).accepted = c.is.0 in
    subst (λ (l : List KeptEntry). StandsOver (ground_of a.log) (tables_of (map plain l)) (map plain l)) c.is.1
    (stand_from G h legal m r a c.it first.mem first.durable c.mem (omega (arith, low, gen)))
