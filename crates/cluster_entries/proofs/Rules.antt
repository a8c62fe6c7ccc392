-- What holds of each appended entry holds in each log.
use Rattle.std.proofs.Common.{ℕ, List, [], ◌∷◌, ◌++◌, sym, subst}
use mathlib.Core.Logic.{inl, inr}
use Rattle.cluster_consensus.proofs.Invariant.{Inv}
use Rattle.cluster_consensus.proofs.Kept.{always, at_node}
use Rattle.cluster_consensus.specs.Enabled.{Enabled}
use Rattle.cluster_consensus.specs.Events.{NodeEvent, change}
use Rattle.cluster_consensus.specs.Events.NodeEvent.{Admits, Boot, Down, Back, BackLead, BackTake, BackGrow, BackAppend, Stand, Grants, Lead, Take, Grow, Append, LearnLead, LearnFollow, Asks, Probe, Confirm}
use Rattle.cluster_consensus.specs.Facts.{Claim, Own, World}
use Rattle.cluster_consensus.specs.Histories.{Legal, after}
use Rattle.cluster_entries.specs.Rules.{EachEntry, Enters, AllEnter}
use Rattle.core_lists.proofs.Fronts.{front_refl, front_trans}
use Rattle.core_lists.proofs.Lasts.{no_more, front_last}
use Rattle.core_lists.proofs.Lists.{each_add, each_none}
use Rattle.core_lists.specs.Fronts.{Front}
use Rattle.core_lists.specs.Lists.{In, Each}

pub each_front : {E : Type 0} (P : List E → E → Type 0) (l m : List E) → Front l m → EachEntry P m → EachEntry P l
each_front P l m p a xs e q = a xs e (front_trans q p)

pub each_last : {E : Type 0} (P : List E → E → Type 0) (l : List E) (f : E) → EachEntry P l → P l f → EachEntry P (l ++ f ∷ [])
each_last P l f a b xs e p = elim (front_last xs l e f p) [
  | inl q ↦ a xs e q
  | inr q ↦ subst (λ t. P t e) (sym q.0) (subst (λ t. P l t) (sym q.1) b)
]

pub record Entries {E : Type 0} (P : List E → E → Type 0) (o : Own E) : Type 0 where
  pub log : EachEntry P o.log
  pub accepts : Each (λ c. EachEntry P c.log) o.accepts

pub entries_took : {E : Type 0} (P : List E → E → Type 0) (o : Own E) (g : ℕ) (l : List E) → Entries P o → EachEntry P l → Each (λ c. EachEntry P c.log) (record { gen = g; log = l } ∷ o.accepts)
entries_took P o g l old new = each_add new old.accepts

-- a shipped log, and a front of one
pub shipped_entries : {E : Type 0} {n : ℕ} {w : World E} (P : List E → E → Type 0) → Inv n w → ((k : ℕ) → Entries P (w.nodes k)) → (m : ℕ) (s : Claim E) (l : List E) → In s (w.nodes m).ships → Front l s.log → EachEntry P l
shipped_entries {w = w} P inv all m s l hs p = each_front P l s.log p ((all m).accepts.at s ((inv.local m).ships.at s hs).1)

pub entries_row : {E : Type 0} {n : ℕ} {w : World E} (P : List E → E → Type 0) → Inv n w → ((k : ℕ) → Entries P (w.nodes k)) → (i : ℕ) (e : NodeEvent E) → Enabled n w i (w.nodes i) e → Enters P (w.nodes i) e → Entries P (change i (w.nodes i) e)
entries_row P inv all i (Admits k p a) en new = all i
entries_row P inv all i (Boot p a l) en new = record { log = new; accepts = (all i).accepts }
entries_row P inv all i Down en new = record { log = (all i).log; accepts = (all i).accepts }
entries_row P inv all i (Back p) en new = record { log = (all i).log; accepts = (all i).accepts }
entries_row P inv all i BackLead en new = record { log = (all i).log; accepts = each_add (all i).log (all i).accepts }
entries_row P inv all i (BackTake g l) en new =
    let s = en.2.2.1 in
    let a = shipped_entries P inv all en.2.2.0 s.it l s.mem (subst (λ t. Front t s.it.log) s.is.1 (front_refl s.it.log)) in
    record { log = a; accepts = each_add a (all i).accepts }
entries_row P inv all i (BackGrow l) en new =
    let s = en.2.2 in
    let a = shipped_entries P inv all en.2.1 s.it l s.mem s.is.1 in
    record { log = a; accepts = each_add a (all i).accepts }
entries_row {w = w} P inv all i (BackAppend e) en new = let a = each_last P (w.nodes i).log e (all i).log new in record { log = a; accepts = each_add a (all i).accepts }
entries_row P inv all i (Stand g) en new = record { log = (all i).log; accepts = (all i).accepts }
entries_row P inv all i (Grants g to) en new = record { log = (all i).log; accepts = (all i).accepts }
entries_row P inv all i Lead en new = record { log = (all i).log; accepts = each_add (all i).log (all i).accepts }
entries_row P inv all i (Take g l) en new =
    let s = en.1.2.1 in
    let a = shipped_entries P inv all en.1.2.0 s.it l s.mem (subst (λ t. Front t s.it.log) s.is.1 (front_refl s.it.log)) in
    record { log = a; accepts = each_add a (all i).accepts }
entries_row P inv all i (Grow l) en new =
    let s = en.1.2 in
    let a = shipped_entries P inv all en.1.1 s.it l s.mem s.is.1 in
    record { log = a; accepts = each_add a (all i).accepts }
entries_row {w = w} P inv all i (Append e) en new = let a = each_last P (w.nodes i).log e (all i).log new in record { log = a; accepts = each_add a (all i).accepts }
entries_row P inv all i (LearnLead l) en new = record { log = (all i).log; accepts = (all i).accepts }
entries_row P inv all i (LearnFollow l) en new = record { log = (all i).log; accepts = (all i).accepts }
entries_row P inv all i (Asks t) en new = all i
entries_row P inv all i (Probe t) en new = record { log = (all i).log; accepts = (all i).accepts }
entries_row P inv all i (Confirm t g) en new = record { log = (all i).log; accepts = (all i).accepts }

-- what holds of each appended entry, over the log before it, holds in each log that a node has or accepted
pub entries : {E : Type 0} (P : List E → E → Type 0) (n : ℕ) (h : List (ℕ × NodeEvent E)) → Legal n h → AllEnter P h → (k : ℕ) → Entries P ((after h).nodes k)
entries P n [] legal new k = record { log = λ xs e p. absurd (no_more xs e p); accepts = each_none }
entries {E} P n (x ∷ h) legal new k =
    let w : World E = after h in
    let old = entries P n h legal.1 new.1 in
    at_node w x.0 x.1 (λ j o. Entries P o) k (entries_row P (always n h legal.1) old x.0 x.1 legal.0 new.0) (old k)
