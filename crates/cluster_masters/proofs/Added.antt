-- Each entry of an accepted log behind what its leader adopted was appended in that generation.
use Rattle.std.proofs.Common.{◌≡◌, ℕ, ◌≤◌, List, [], ◌∷◌, ◌++◌, length, arith, refl, sym, subst, ◌∙◌, length-append}
use Rattle.std.specs.Prelude.{true}
use mathlib.Core.Logic.{◌⊎◌, inl, inr}
use Rattle.cluster_consensus.proofs.FactSteps.{holds, leads_log}
use Rattle.cluster_consensus.proofs.Invariant.{Inv, Grows}
use Rattle.cluster_consensus.proofs.Kept.{always, at_node, grows_row, self_row}
use Rattle.cluster_consensus.specs.Enabled.{Enabled}
use Rattle.cluster_consensus.specs.Events.{NodeEvent, change}
use Rattle.cluster_consensus.specs.Events.NodeEvent.{BackLead, BackTake, BackGrow, BackAppend, Lead, Take, Grow, Append}
use Rattle.cluster_consensus.specs.Facts.{Claim, World}
use Rattle.cluster_consensus.specs.Histories.{Legal, happens, after}
use Rattle.cluster_masters.specs.Appended.{Appends, AllAppend}
use Rattle.core_lists.proofs.Fronts.{front_refl, front_trans, front_length}
use Rattle.core_lists.proofs.Lasts.{front_last}
use Rattle.core_lists.proofs.Lists.{each_add, each_none}
use Rattle.core_lists.specs.Fronts.{Front}
use Rattle.core_lists.specs.Lists.{In, Each}
use Rattle.core_lists.specs.Lists.In.{here}

pub record Added {E : Type 0} (R : ℕ → List E → E → Type 0) (w : World E) (c : Claim E) : Type 0 where
  pub by : ℕ
  pub lead : Claim E
  pub mem : In lead (w.nodes by).leads
  pub gen : lead.gen ≡ c.gen
  pub rest : (xs : List E) (e : E) → Front (xs ++ e ∷ []) c.log → length lead.log ≤ length xs → R c.gen xs e

added_part : {E : Type 0} (R : ℕ → List E → E → Type 0) (w : World E) (c d : Claim E) → Added R w c → d.gen ≡ c.gen → Front d.log c.log → Added R w d
added_part R w c d a e p = record {
  by = a.by;
  lead = a.lead;
  mem = a.mem;
  gen = a.gen ∙ sym e;
  rest = λ xs x q le. subst (λ g. R g xs x) (sym e) (a.rest xs x (front_trans q p) le);
}

added_lead : {E : Type 0} (R : ℕ → List E → E → Type 0) (w : World E) (i : ℕ) (c : Claim E) → In c (w.nodes i).leads → Added R w c
added_lead R w i c h = record { by = i; lead = c; mem = h; gen = refl; rest = λ xs e p le. (let q = front_length p in let s = length-append xs (e ∷ []) in absurd (omega arith)) }

added_append : {E : Type 0} (R : ℕ → List E → E → Type 0) (w : World E) (g : ℕ) (l : List E) (x : E) → Added R w (record { gen = g; log = l }) → R g l x → Added R w (record { gen = g; log = l ++ x ∷ [] })
added_append {E} R w g l x a r = record { by = a.by; lead = a.lead; mem = a.mem; gen = a.gen; rest = λ xs e p le. go xs e le (front_last xs l e x p) }
  where
    go : (xs : List E) (e : E) → length a.lead.log ≤ length xs → Front (xs ++ e ∷ []) l ⊎ ((xs ≡ l) × (e ≡ x)) → R g xs e
    go xs e le (inl p) = a.rest xs e p le
    go xs e le (inr q) = subst (λ t. R g t e) (sym q.0) (subst (λ t. R g l t) (sym q.1) r)

added_grows : {E : Type 0} (R : ℕ → List E → E → Type 0) {w v : World E} {c : Claim E} → Grows w v → Added R w c → Added R v c
added_grows R g a = record { by = a.by; lead = a.lead; mem = g.leads a.by a.lead a.mem; gen = a.gen; rest = a.rest }

added_shipped : {E : Type 0} (R : ℕ → List E → E → Type 0) {n : ℕ} {w : World E} → Inv n w → ((k : ℕ) → Each (Added R w) (w.nodes k).accepts) → (m g : ℕ) (s : Claim E) (l : List E) → In s (w.nodes m).ships → s.gen ≡ g → Front l s.log → Added R w (record { gen = g; log = l })
added_shipped R {n} {w} inv all m g s l hs sg p = added_part R w s (record { gen = g; log = l }) ((all m).at s ((inv.local m).ships.at s hs).1) (sym sg) p

added_held : {E : Type 0} (R : ℕ → List E → E → Type 0) {n : ℕ} {w : World E} → Inv n w → ((k : ℕ) → Each (Added R w) (w.nodes k).accepts) → (i : ℕ) → (w.nodes i).leading ≡ true → (x : E) → R (w.nodes i).accepted (w.nodes i).log x → Added R w (record { gen = (w.nodes i).accepted; log = (w.nodes i).log ++ x ∷ [] })
added_held R {n} {w} inv all i lead x r =
    let l = leads_log inv i lead in
    let lg : l.it.gen ≡ (w.nodes i).accepted = l.is.0 in
    let c = holds inv i i l.it l.mem (omega arith) in
    let a = added_part R w c.it (record { gen = (w.nodes i).accepted; log = (w.nodes i).log }) ((all i).at c.it c.mem) (sym c.is.0) (subst (λ t. Front t c.it.log) c.is.1 (front_refl c.it.log)) in
    added_append R w (w.nodes i).accepted (w.nodes i).log x a r

added_row : {E : Type 0} (R : ℕ → List E → E → Type 0) {n : ℕ} (w : World E) → Inv n w → ((k : ℕ) → Each (Added R w) (w.nodes k).accepts) → (i : ℕ) (e : NodeEvent E) → Enabled n w i (w.nodes i) e → Appends R (w.nodes i) e → (v : World E) → Grows w v → v.nodes i ≡ change i (w.nodes i) e → Each (Added R v) (change i (w.nodes i) e).accepts
added_row {E} R {n} w inv all i e en may v g self = go e en may self
  where
    old : Each (Added R v) (w.nodes i).accepts
    old = record { at = λ c h. added_grows R g ((all i).at c h) }

    on : (c : Claim E) → Added R w c → Added R v c
    on c a = added_grows R g a

    go : (e : NodeEvent E) → Enabled n w i (w.nodes i) e → Appends R (w.nodes i) e → v.nodes i ≡ change i (w.nodes i) e → Each (Added R v) (change i (w.nodes i) e).accepts
    go BackLead en may self = let c : Claim E = record { gen = (w.nodes i).promised; log = (w.nodes i).log } in each_add (added_lead R v i c (subst (λ t. In c t.leads) (sym self) here)) old
    go Lead en may self = let c : Claim E = record { gen = (w.nodes i).promised; log = (w.nodes i).log } in each_add (added_lead R v i c (subst (λ t. In c t.leads) (sym self) here)) old
    go (BackTake h l) en may self = let s = en.2.2.1 in each_add (on _ (added_shipped R inv all en.2.2.0 h s.it l s.mem s.is.0 (subst (λ t. Front t s.it.log) s.is.1 (front_refl s.it.log)))) old
    go (Take h l) en may self = let s = en.1.2.1 in each_add (on _ (added_shipped R inv all en.1.2.0 h s.it l s.mem s.is.0 (subst (λ t. Front t s.it.log) s.is.1 (front_refl s.it.log)))) old
    go (BackGrow l) en may self = let s = en.2.2 in each_add (on _ (added_shipped R inv all en.2.1 (w.nodes i).accepted s.it l s.mem s.is.0 s.is.1)) old
    go (Grow l) en may self = let s = en.1.2 in each_add (on _ (added_shipped R inv all en.1.1 (w.nodes i).accepted s.it l s.mem s.is.0 s.is.1)) old
    go (BackAppend x) en may self = each_add (on _ (added_held R inv all i en.2 x may)) old
    go (Append x) en may self = each_add (on _ (added_held R inv all i en.1 x may)) old
    go _ en may self = old

pub added : {E : Type 0} (R : ℕ → List E → E → Type 0) (n : ℕ) (h : List (ℕ × NodeEvent E)) → Legal n h → AllAppend R h → (k : ℕ) → Each (Added R (after h)) ((after h).nodes k).accepts
added R n [] legal new k = each_none
added {E} R n (x ∷ h) legal new k =
    let w : World E = after h in
    let old = added R n h legal.1 new.1 in
    let v : World E = happens w x.0 x.1 in
    at_node w x.0 x.1 (λ j o. Each (Added R v) o.accepts) k
    (added_row R w (always n h legal.1) old x.0 x.1 legal.0 new.0 v (grows_row w x.0 x.1) (self_row w x.0 x.1))
    (record { at = λ c m. added_grows R (grows_row w x.0 x.1) ((old k).at c m) })
