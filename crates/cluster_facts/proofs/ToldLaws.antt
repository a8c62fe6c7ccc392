-- What is told is so: what is durable, what is shipped, and what is adopted.
use Rattle.std.proofs.Common.{◌≡◌, ℕ, List, [], ◌∷◌, ◌++◌, refl, sym, subst, ◌∙◌}
use Rattle.std.specs.Prelude.{true, false}
use Rattle.cluster_consensus.proofs.FactSteps.{grown}
use Rattle.cluster_consensus.proofs.Generations.{one_leader}
use Rattle.cluster_consensus.proofs.Invariant.{Inv}
use Rattle.cluster_consensus.proofs.Kept.{always, at_node}
use Rattle.cluster_consensus.specs.Durable.{DurableIn}
use Rattle.cluster_consensus.specs.Enabled.{Enabled, CanGrow}
use Rattle.cluster_consensus.specs.Events.{NodeEvent, change}
use Rattle.cluster_consensus.specs.Events.NodeEvent.{Admits, Boot, Down, Back, BackLead, BackTake, BackGrow, BackAppend, Stand, Grants, Lead, Take, Grow, Append, LearnLead, LearnFollow, Asks, Probe, Confirm}
use Rattle.cluster_consensus.specs.Facts.{Claim, Own, World}
use Rattle.cluster_consensus.specs.Histories.{Legal, after}
use Rattle.core_lists.proofs.Fronts.{front_trans, front_length, front_same}
use Rattle.core_lists.specs.Fronts.{Front}
use Rattle.core_lists.specs.Lists.{In, Each, Has}
use Rattle.core_lists.specs.Lists.In.{here, there}
use Rattle.core_lists.proofs.Lists.{each_add, each_none}

pub told_durable : {E : Type 0} (n m : ℕ) (h : List (ℕ × NodeEvent E)) (d : Claim E) → Legal n h → In d ((after h).nodes m).durables → DurableIn n (after h) d.gen d.log
told_durable n m h d legal hd = ((always n h legal).refs m).durables.at d hd

pub shipped_accepted : {E : Type 0} (n m : ℕ) (h : List (ℕ × NodeEvent E)) (s : Claim E) → Legal n h → In s ((after h).nodes m).ships → In s ((after h).nodes m).accepts
shipped_accepted n m h s legal hs = (((always n h legal).local m).ships.at s hs).1

-- a leader that grows has that log already
same_grown : {E : Type 0} {n : ℕ} {w : World E} → Inv n w → (i : ℕ) (l : List E) → (w.nodes i).leading ≡ true → CanGrow w (w.nodes i) l → (w.nodes i).log ≡ l
same_grown {E} {n} {w} inv i l lead can =
    let s = can.2 in
    let out = (inv.local can.1).ships.at s.it s.mem in
    let mine = ((inv.local i).heads lead).1 in
    let by : can.1 ≡ i = one_leader inv can.1 i out.0.it mine.it out.0.mem mine.mem (out.0.is ∙ (s.is.0 ∙ sym mine.is)) in
    let acc : In s.it (w.nodes i).accepts = subst (λ t. In s.it (w.nodes t).accepts) by out.1 in
    let whole : Front s.it.log (w.nodes i).log = ((inv.local i).last.at s.it acc).1 s.is.0 in
    front_same (grown inv i l can).0 (front_length (front_trans s.is.1 whole))

abbrev pub Shipping : {E : Type 0} → Own E → Type 0
Shipping o = o.leading ≡ true → Has (λ s. (s.gen ≡ o.accepted) × (s.log ≡ o.log)) o.ships

pub shipping_row : {E : Type 0} {n : ℕ} {w : World E} → Inv n w → (i : ℕ) (e : NodeEvent E) → Enabled n w i (w.nodes i) e → Shipping (w.nodes i) → Shipping (change i (w.nodes i) e)
shipping_row inv i (Admits k p a) en f = f
shipping_row inv i (Boot p a l) en f = λ (t : false ≡ true). absurd (cc)
shipping_row inv i Down en f = f
shipping_row inv i (Back p) en f = λ (t : false ≡ true). absurd (cc)
shipping_row inv i BackLead en f = λ (t : false ≡ true). absurd (cc)
shipping_row inv i (BackTake g l) en f = λ (t : false ≡ true). absurd (cc)
shipping_row inv i (BackGrow l) en f = λ (t : false ≡ true). absurd (cc)
shipping_row inv i (BackAppend e) en f = λ (t : false ≡ true). absurd (cc)
shipping_row inv i (Stand g) en f = λ (t : false ≡ true). absurd (cc)
shipping_row inv i (Grants g to) en f = λ (t : false ≡ true). absurd (cc)
shipping_row {w = w} inv i Lead en f = λ t. record { it = record { gen = (w.nodes i).promised; log = (w.nodes i).log }; mem = here; is = (refl, refl) }
shipping_row inv i (Take g l) en f = λ (t : false ≡ true). absurd (cc)
shipping_row inv i (Grow l) en f = λ t. (let s = f t in record { it = s.it; mem = s.mem; is = (s.is.0, s.is.1 ∙ same_grown inv i l t en.1) })
shipping_row {w = w} inv i (Append e) en f = λ t. record { it = record { gen = (w.nodes i).accepted; log = (w.nodes i).log ++ e ∷ [] }; mem = here; is = (refl, refl) }
shipping_row inv i (LearnLead l) en f = f
shipping_row inv i (LearnFollow l) en f = f
shipping_row inv i (Asks t) en f = f
shipping_row inv i (Probe t) en f = f
shipping_row inv i (Confirm t g) en f = f

pub shipping : {E : Type 0} (n i : ℕ) (h : List (ℕ × NodeEvent E)) → Legal n h → ((after h).nodes i).leading ≡ true → Has (λ s. (s.gen ≡ ((after h).nodes i).accepted) × (s.log ≡ ((after h).nodes i).log)) ((after h).nodes i).ships
shipping n i [] legal = λ (t : false ≡ true). absurd (cc)
shipping {E} n i (x ∷ h) legal =
    let w : World E = after h in
    at_node w x.0 x.1 (λ j o. Shipping o) i (shipping_row (always n h legal.1) x.0 x.1 legal.0 (shipping n x.0 h legal.1)) (shipping n i h legal.1)

-- what a leader adopted it accepted
record AdoptedAccepted {E : Type 0} (o : Own E) : Type 0 where
  each : Each (λ l. In l o.accepts) o.leads

adopted_more : {E : Type 0} (o : Own E) (c : Claim E) → AdoptedAccepted o → Each (λ l. In l (c ∷ o.accepts)) o.leads
adopted_more o c a = record { at = λ l h. there (a.each.at l h) }

adopted_row : {E : Type 0} (i : ℕ) (o : Own E) (e : NodeEvent E) → AdoptedAccepted o → AdoptedAccepted (change i o e)
adopted_row {E} i o BackLead a = let c : Claim E = record { gen = o.promised; log = o.log } in record { each = each_add here (adopted_more o c a) }
adopted_row {E} i o Lead a = let c : Claim E = record { gen = o.promised; log = o.log } in record { each = each_add here (adopted_more o c a) }
adopted_row i o (BackTake g l) a = record { each = adopted_more o (record { gen = g; log = l }) a }
adopted_row i o (Take g l) a = record { each = adopted_more o (record { gen = g; log = l }) a }
adopted_row i o (BackGrow l) a = record { each = adopted_more o (record { gen = o.accepted; log = l }) a }
adopted_row i o (Grow l) a = record { each = adopted_more o (record { gen = o.accepted; log = l }) a }
adopted_row i o (BackAppend e) a = record { each = adopted_more o (record { gen = o.accepted; log = o.log ++ e ∷ [] }) a }
adopted_row i o (Append e) a = record { each = adopted_more o (record { gen = o.accepted; log = o.log ++ e ∷ [] }) a }
adopted_row i o _ a = record { each = a.each }

adopted_accepted : {E : Type 0} (k : ℕ) (h : List (ℕ × NodeEvent E)) → AdoptedAccepted ((after h).nodes k)
adopted_accepted k [] = record { each = each_none }
adopted_accepted {E} k (x ∷ h) =
    let w : World E = after h in
    at_node w x.0 x.1 (λ j o. AdoptedAccepted o) k (adopted_row x.0 (w.nodes x.0) x.1 (adopted_accepted x.0 h)) (adopted_accepted k h)

pub leads_accepted : {E : Type 0} (m : ℕ) (h : List (ℕ × NodeEvent E)) (l : Claim E) → In l ((after h).nodes m).leads → In l ((after h).nodes m).accepts
leads_accepted m h l mem = (adopted_accepted m h).each.at l mem
