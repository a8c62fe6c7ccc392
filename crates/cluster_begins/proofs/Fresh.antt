-- What leaders know while they lead.
use Rattle.std.proofs.Common.{◌≡◌, ℕ, ◌≤◌, List, [], ◌∷◌, length, take, arith, refl, ◌∙◌, subst}
use Rattle.std.specs.Prelude.{true, false}
use mathlib.Core.Logic.{inl, inr}
use Rattle.cluster_consensus.proofs.FactSteps.{durable_grows}
use Rattle.cluster_consensus.proofs.Invariant.{Inv, Known}
use Rattle.cluster_consensus.proofs.Kept.{always, at_node, grows_row}
use Rattle.cluster_consensus.proofs.Onward.{Onward, onward_row}
use Rattle.cluster_consensus.specs.Durable.{DurableIn}
use Rattle.cluster_consensus.specs.Enabled.{Enabled}
use Rattle.cluster_consensus.specs.Events.{NodeEvent, change}
use Rattle.cluster_consensus.specs.Events.NodeEvent.{Admits, Boot, Down, Back, BackLead, BackTake, BackGrow, BackAppend, Stand, Grants, Lead, Take, Grow, Append, LearnLead, LearnFollow, Asks, Probe, Confirm}
use Rattle.cluster_consensus.specs.Facts.{Own, World}
use Rattle.cluster_consensus.specs.Histories.{Legal, happens, after, asked}
use Rattle.core_lists.proofs.Fronts.{length_take, take_length}
use Rattle.core_lists.proofs.Lists.{each_add, each_none}
use Rattle.core_lists.specs.Lists.{In, Each, Has}
use Rattle.core_lists.specs.Lists.In.{here, there}

-- a position told in a generation: that generation was led, and while the node leads it, its durable number is at least the position
pub record Told {E : Type 0} (o : Own E) (g p : ℕ) : Type 0 where
  pub low : g ≤ o.accepted
  pub led : Has (λ l. l.gen ≡ g) o.leads
  pub still : o.leading ≡ true → g ≡ o.accepted → p ≤ o.durable

pub record FreshLocal {E : Type 0} (o : Own E) : Type 0 where
  pub durables : Each (λ c. Told o c.gen (length c.log)) o.durables
  pub pings : Each (λ x. Told o x.gen x.durable) o.pings
  pub adopted : o.leading ≡ true → Has (λ l. (l.gen ≡ o.accepted) × (length l.log ≤ o.adopted)) o.leads

-- a position is durable in a generation not above this one
abbrev pub IsBacked : {E : Type 0} → ℕ → World E → ℕ → ℕ → Type 0
IsBacked {E} n w g p = (h : ℕ) × (h ≤ g) × (d : List E) × DurableIn n w h d × (p ≤ length d)

pub told_on : {E : Type 0} {o p : Own E} (g k : ℕ) → Onward o p → Told o g k → Told p g k
told_on g k on t = record {
  low = let a = on.accepted in let b = t.low in omega arith;
  led = record { it = t.led.it; mem = on.leads t.led.it t.led.mem; is = t.led.is };
  still = λ lead e. (
      let a = on.accepted in
      let b = t.low in
      let r = on.still lead (omega arith) in
      let c = t.still r.0 (omega arith) in
      let d = r.1 in
      omega arith);
}

pub on_local : {E : Type 0} {o p : Own E} → Onward o p → Each (λ c. Told o c.gen (length c.log)) p.durables → Each (λ x. Told o x.gen x.durable) p.pings → (p.leading ≡ true → Has (λ l. (l.gen ≡ p.accepted) × (length l.log ≤ p.adopted)) p.leads) → FreshLocal p
on_local on d p a = record {
  durables = record { at = λ c h. told_on c.gen (length c.log) on (d.at c h) };
  pings = record { at = λ x h. told_on x.gen x.durable on (p.at x h) };
  adopted = a;
}

pub fresh_row : {E : Type 0} {n : ℕ} {w : World E} → Inv n w → (i : ℕ) (e : NodeEvent E) → Enabled n w i (w.nodes i) e → FreshLocal (w.nodes i) → FreshLocal (change i (w.nodes i) e)
fresh_row inv i (Admits k p a) en f = f
fresh_row inv i (Boot p a l) en f = on_local (onward_row inv i (Boot p a l) en) f.durables f.pings (λ (t : false ≡ true). absurd (cc))
fresh_row inv i Down en f = on_local (onward_row inv i Down en) f.durables f.pings f.adopted
fresh_row inv i (Back p) en f = on_local (onward_row inv i (Back p) en) f.durables f.pings (λ (t : false ≡ true). absurd (cc))
fresh_row inv i BackLead en f = on_local (onward_row inv i BackLead en) f.durables f.pings (λ (t : false ≡ true). absurd (cc))
fresh_row inv i (BackTake g l) en f = on_local (onward_row inv i (BackTake g l) en) f.durables f.pings (λ (t : false ≡ true). absurd (cc))
fresh_row inv i (BackGrow l) en f = on_local (onward_row inv i (BackGrow l) en) f.durables f.pings (λ (t : false ≡ true). absurd (cc))
fresh_row inv i (BackAppend e) en f = on_local (onward_row inv i (BackAppend e) en) f.durables f.pings (λ (t : false ≡ true). absurd (cc))
fresh_row inv i (Stand g) en f = on_local (onward_row inv i (Stand g) en) f.durables f.pings (λ (t : false ≡ true). absurd (cc))
fresh_row inv i (Grants g to) en f = on_local (onward_row inv i (Grants g to) en) f.durables f.pings (λ (t : false ≡ true). absurd (cc))
fresh_row {w = w} inv i Lead en f = on_local (onward_row inv i Lead en) f.durables f.pings (λ t. record { it = record { gen = (w.nodes i).promised; log = (w.nodes i).log }; mem = here; is = (refl, omega arith) })
fresh_row inv i (Take g l) en f = on_local (onward_row inv i (Take g l) en) f.durables f.pings (λ (t : false ≡ true). absurd (cc))
fresh_row inv i (Grow l) en f = on_local (onward_row inv i (Grow l) en) f.durables f.pings f.adopted
fresh_row inv i (Append e) en f = on_local (onward_row inv i (Append e) en) f.durables f.pings f.adopted
fresh_row {w = w} inv i (LearnLead l) en f =
    let on = onward_row inv i (LearnLead l) en in
    let head = ((inv.local i).heads en.1).1 in
    record {
      durables = each_add (record { low = omega arith; led = head; still = λ t e. length_take l (w.nodes i).log }) (record { at = λ c h. told_on c.gen (length c.log) on (f.durables.at c h) });
      pings = record { at = λ x h. told_on x.gen x.durable on (f.pings.at x h) };
      adopted = f.adopted;
    }
fresh_row inv i (LearnFollow l) en f = on_local (onward_row inv i (LearnFollow l) en) f.durables f.pings f.adopted
fresh_row inv i (Asks t) en f = f
fresh_row {w = w} inv i (Probe t) en f =
    let on = onward_row inv i (Probe t) en in
    let head = ((inv.local i).heads en.1).1 in
    record {
      durables = record { at = λ c h. told_on c.gen (length c.log) on (f.durables.at c h) };
      pings = each_add (record { low = omega arith; led = head; still = λ t e. omega arith }) (record { at = λ x h. told_on x.gen x.durable on (f.pings.at x h) });
      adopted = f.adopted;
    }
fresh_row inv i (Confirm t g) en f = on_local (onward_row inv i (Confirm t g) en) f.durables f.pings f.adopted

-- what pings and pongs say of others
pub record FreshRefs {E : Type 0} (n : ℕ) (w : World E) (o : Own E) : Type 0 where
  pub pings : Each (λ x. IsBacked n w x.gen x.durable × Has (λ s. s ≡ x.ask) w.asks) o.pings
  pub pongs : Each (λ x. Has (λ s. s ≡ x.ask) w.asks) o.pongs

pub asks_row : {E : Type 0} (w : World E) (e : NodeEvent E) (t : ℕ) → Has (λ s. s ≡ t) w.asks → Has (λ s. s ≡ t) (asked w e)
asks_row w (Asks u) t h = record { it = h.it; mem = there h.mem; is = h.is }
asks_row w _ t h = h

pub refs_on : {E : Type 0} (n : ℕ) (w : World E) (i : ℕ) (e : NodeEvent E) (o : Own E) → FreshRefs n w o → FreshRefs n (happens w i e) o
refs_on n w i e o r = record {
  pings = record { at = λ x h. (let t = r.pings.at x h in let b = t.0 in ((b.0, b.1, b.2, durable_grows (grows_row w i e) b.3, b.4), asks_row w e x.ask t.1)) };
  pongs = record { at = λ x h. asks_row w e x.ask (r.pongs.at x h) };
}

pub ping_backed : {E : Type 0} {n : ℕ} {w : World E} → Inv n w → (i : ℕ) → 1 ≤ (w.nodes i).durable → IsBacked n w (w.nodes i).accepted (w.nodes i).durable
ping_backed {E} {n} {w} inv i pos = go (inv.refs i).known
  where
    go : Known n w (w.nodes i) → IsBacked n w (w.nodes i).accepted (w.nodes i).durable
    go (inl e) = absurd (omega arith)
    go (inr k) = (k.0, k.1, take (w.nodes i).durable (w.nodes i).log, k.2, take_length (w.nodes i).durable (w.nodes i).log (inv.refs i).fits)

pub fresh_refs_row : {E : Type 0} {n : ℕ} {w : World E} → Inv n w → (i : ℕ) (e : NodeEvent E) → Enabled n w i (w.nodes i) e → ((k : ℕ) → FreshRefs n w (w.nodes k)) → FreshRefs n w (change i (w.nodes i) e)
fresh_refs_row {w = w} inv i (Probe t) en all =
    let r = all i in
    record { pings = each_add (ping_backed inv i en.3, en.2) r.pings; pongs = r.pongs }
fresh_refs_row inv i (Confirm t g) en all =
    let x = en.3 in
    let s = ((all en.2).pings.at x.it x.mem).1 in
    record { pings = (all i).pings; pongs = each_add (record { it = s.it; mem = s.mem; is = s.is ∙ x.is.0 }) (all i).pongs }
fresh_refs_row inv i (Admits k p a) en all = all i
fresh_refs_row inv i (Boot p a l) en all = record { pings = (all i).pings; pongs = (all i).pongs }
fresh_refs_row inv i Down en all = record { pings = (all i).pings; pongs = (all i).pongs }
fresh_refs_row inv i (Back p) en all = record { pings = (all i).pings; pongs = (all i).pongs }
fresh_refs_row inv i BackLead en all = record { pings = (all i).pings; pongs = (all i).pongs }
fresh_refs_row inv i (BackTake g l) en all = record { pings = (all i).pings; pongs = (all i).pongs }
fresh_refs_row inv i (BackGrow l) en all = record { pings = (all i).pings; pongs = (all i).pongs }
fresh_refs_row inv i (BackAppend e) en all = record { pings = (all i).pings; pongs = (all i).pongs }
fresh_refs_row inv i (Stand g) en all = record { pings = (all i).pings; pongs = (all i).pongs }
fresh_refs_row inv i (Grants g to) en all = record { pings = (all i).pings; pongs = (all i).pongs }
fresh_refs_row inv i Lead en all = record { pings = (all i).pings; pongs = (all i).pongs }
fresh_refs_row inv i (Take g l) en all = record { pings = (all i).pings; pongs = (all i).pongs }
fresh_refs_row inv i (Grow l) en all = record { pings = (all i).pings; pongs = (all i).pongs }
fresh_refs_row inv i (Append e) en all = record { pings = (all i).pings; pongs = (all i).pongs }
fresh_refs_row inv i (LearnLead l) en all = record { pings = (all i).pings; pongs = (all i).pongs }
fresh_refs_row inv i (LearnFollow l) en all = record { pings = (all i).pings; pongs = (all i).pongs }
fresh_refs_row inv i (Asks t) en all = all i

pub record FreshInv {E : Type 0} (n : ℕ) (w : World E) : Type 0 where
  pub inv : Inv n w
  pub local : (i : ℕ) → FreshLocal (w.nodes i)
  pub refs : (i : ℕ) → FreshRefs n w (w.nodes i)

pub always_fresh : {E : Type 0} (n : ℕ) (h : List (ℕ × NodeEvent E)) → Legal n h → FreshInv n (after h)
always_fresh n [] legal = record { inv = always n [] legal; local = λ i. record { durables = each_none; pings = each_none; adopted = λ (t : false ≡ true). absurd (cc) }; refs = λ i. record { pings = each_none; pongs = each_none } }
always_fresh {E} n (x ∷ h) legal =
    let old = always_fresh n h legal.1 in
    let w : World E = after h in
    record {
      inv = always n (x ∷ h) legal;
      local = λ k. at_node w x.0 x.1 (λ j o. FreshLocal o) k (fresh_row old.inv x.0 x.1 legal.0 (old.local x.0)) (old.local k);
      refs = λ k. at_node w x.0 x.1 (λ j o. FreshRefs n (happens w x.0 x.1) o) k (refs_on n w x.0 x.1 (change x.0 (w.nodes x.0) x.1) (fresh_refs_row old.inv x.0 x.1 legal.0 old.refs)) (refs_on n w x.0 x.1 (w.nodes k) (old.refs k));
    }

-- what answers of a node rest on: it led there, and knew as durable all that it had adopted
pub record Answering {E : Type 0} (o : Own E) : Type 0 where
  pub pings : Each (λ x. Has (λ l. (l.gen ≡ x.gen) × (length l.log ≤ x.durable)) o.leads) o.pings

answering_on : {E : Type 0} {o p : Own E} → Onward o p → p.pings ≡ o.pings → Answering o → Answering p
answering_on {E} {o} {p} on same a = record { pings = record { at = λ x h. (let l = a.pings.at x (subst (λ t. In x t) same h) in record { it = l.it; mem = on.leads l.it l.mem; is = l.is }) } }

answering_row : {E : Type 0} {n : ℕ} {w : World E} → FreshInv n w → (i : ℕ) (e : NodeEvent E) → Enabled n w i (w.nodes i) e → Answering (w.nodes i) → Answering (change i (w.nodes i) e)
answering_row {w = w} v i (Probe t) en a =
    let l = (v.local i).adopted en.1 in
    let s : length l.it.log ≤ (w.nodes i).adopted = l.is.1 in
    let k : (w.nodes i).adopted ≤ (w.nodes i).durable = en.4 in
    record { pings = each_add (record { it = l.it; mem = l.mem; is = (l.is.0, omega arith) }) a.pings }
answering_row v i (Admits k p a) en x = x
answering_row v i (Boot p a l) en x = answering_on (onward_row v.inv i (Boot p a l) en) refl x
answering_row v i Down en x = answering_on (onward_row v.inv i Down en) refl x
answering_row v i (Back p) en x = answering_on (onward_row v.inv i (Back p) en) refl x
answering_row v i BackLead en x = answering_on (onward_row v.inv i BackLead en) refl x
answering_row v i (BackTake g l) en x = answering_on (onward_row v.inv i (BackTake g l) en) refl x
answering_row v i (BackGrow l) en x = answering_on (onward_row v.inv i (BackGrow l) en) refl x
answering_row v i (BackAppend e) en x = answering_on (onward_row v.inv i (BackAppend e) en) refl x
answering_row v i (Stand g) en x = answering_on (onward_row v.inv i (Stand g) en) refl x
answering_row v i (Grants g to) en x = answering_on (onward_row v.inv i (Grants g to) en) refl x
answering_row v i Lead en x = answering_on (onward_row v.inv i Lead en) refl x
answering_row v i (Take g l) en x = answering_on (onward_row v.inv i (Take g l) en) refl x
answering_row v i (Grow l) en x = answering_on (onward_row v.inv i (Grow l) en) refl x
answering_row v i (Append e) en x = answering_on (onward_row v.inv i (Append e) en) refl x
answering_row v i (LearnLead l) en x = answering_on (onward_row v.inv i (LearnLead l) en) refl x
answering_row v i (LearnFollow l) en x = answering_on (onward_row v.inv i (LearnFollow l) en) refl x
answering_row v i (Asks t) en x = x
answering_row v i (Confirm t g) en x = answering_on (onward_row v.inv i (Confirm t g) en) refl x

pub always_answering : {E : Type 0} (n : ℕ) (h : List (ℕ × NodeEvent E)) → Legal n h → (k : ℕ) → Answering ((after h).nodes k)
always_answering n [] legal k = record { pings = each_none }
always_answering {E} n (x ∷ h) legal k =
    let w : World E = after h in
    at_node w x.0 x.1 (λ j o. Answering o) k (answering_row (always_fresh n h legal.1) x.0 x.1 legal.0 (always_answering n h legal.1 x.0)) (always_answering n h legal.1 k)
