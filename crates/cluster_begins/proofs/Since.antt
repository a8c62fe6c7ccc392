-- Two places of one history: what was told before an ask, and what answers it.
use Rattle.std.proofs.Common.{◌≡◌, ℕ, ◌<◌, ◌≤◌, ◌≢◌, List, [], ◌∷◌, ◌++◌, length, arith, refl, ap, sym, subst, ◌∙◌}
use Rattle.std.specs.Prelude.{true}
use mathlib.Core.Logic.{◌⊎◌, inl, inr}
use Rattle.cluster_begins.proofs.Fresh.{Told, FreshInv, always_fresh}
use Rattle.cluster_begins.specs.Begins.{CanBegin, IsPositionAnswered}
use Rattle.cluster_consensus.proofs.Generations.{one_leader, adopts}
use Rattle.cluster_consensus.proofs.Invariant.{Inv}
use Rattle.cluster_consensus.proofs.Kept.{at_node}
use Rattle.cluster_consensus.proofs.Laws.{legal_tail}
use Rattle.cluster_consensus.specs.Durable.{DurableIn, DurableAt}
use Rattle.cluster_consensus.specs.Enabled.{Enabled, IsGranted}
use Rattle.cluster_consensus.specs.Events.{NodeEvent, change}
use Rattle.cluster_consensus.specs.Events.NodeEvent.{Admits, Boot, Down, Back, BackLead, BackTake, BackGrow, BackAppend, Stand, Grants, Lead, Take, Grow, Append, LearnLead, LearnFollow, Asks, Probe, Confirm}
use Rattle.cluster_consensus.specs.Facts.{Claim, Ping, Own, World}
use Rattle.cluster_consensus.specs.Histories.{Legal, happens, after}
use Rattle.core_lists.proofs.Fronts.{front_length}
use Rattle.core_lists.proofs.Lists.{each_add}
use Rattle.core_lists.proofs.Majorities.{meet}
use Rattle.core_lists.proofs.Numbers.{lt_or_eq}
use Rattle.core_lists.specs.Lists.{In, Each, Has}
use Rattle.core_lists.specs.Lists.In.{there}

pub record OnTold {E : Type 0} (o p : Own E) : Type 0 where
  pub promised : o.promised ≤ p.promised
  pub durables : (x : Claim E) → In x o.durables → In x p.durables
  pub pings : (x : Ping) → In x o.pings → In x p.pings

pub told_same : {E : Type 0} (o p : Own E) → o.promised ≤ p.promised → p.durables ≡ o.durables → p.pings ≡ o.pings → OnTold o p
told_same o p le d q = record { promised = le; durables = λ x h. subst (λ t. In x t) (sym d) h; pings = λ x h. subst (λ t. In x t) (sym q) h }

pub on_told : {E : Type 0} {n : ℕ} {w : World E} → Inv n w → (i : ℕ) (e : NodeEvent E) → Enabled n w i (w.nodes i) e → OnTold (w.nodes i) (change i (w.nodes i) e)
on_told {w = w} inv i (Admits k p a) en = told_same (w.nodes i) (w.nodes i) (omega arith) refl refl
on_told {w = w} inv i (Boot p a l) en = told_same (w.nodes i) (change i (w.nodes i) (Boot p a l)) (let z : (w.nodes i).promised ≡ 0 = ap (λ o. o.promised) ((inv.local i).fresh en.1) in omega arith) refl refl
on_told {w = w} inv i Down en = told_same (w.nodes i) (change i (w.nodes i) Down) (omega arith) refl refl
on_told {w = w} inv i (Back p) en = told_same (w.nodes i) (change i (w.nodes i) (Back p)) en.2 refl refl
on_told {w = w} inv i BackLead en = told_same (w.nodes i) (change i (w.nodes i) BackLead) (omega arith) refl refl
on_told {w = w} inv i (BackTake g l) en = told_same (w.nodes i) (change i (w.nodes i) (BackTake g l)) en.2.0 refl refl
on_told {w = w} inv i (BackGrow l) en = told_same (w.nodes i) (change i (w.nodes i) (BackGrow l)) en.2.0 refl refl
on_told {w = w} inv i (BackAppend e) en = told_same (w.nodes i) (change i (w.nodes i) (BackAppend e)) (let h : (w.nodes i).accepted ≡ (w.nodes i).promised = ((inv.local i).heads en.2).0 in omega arith) refl refl
on_told {w = w} inv i (Stand g) en = told_same (w.nodes i) (change i (w.nodes i) (Stand g)) (let lt : (w.nodes i).promised < g = en.1 in omega arith) refl refl
on_told {w = w} inv i (Grants g to) en = told_same (w.nodes i) (change i (w.nodes i) (Grants g to)) (let lt : (w.nodes i).promised < g = en.1 in omega arith) refl refl
on_told {w = w} inv i Lead en = told_same (w.nodes i) (change i (w.nodes i) Lead) (omega arith) refl refl
on_told {w = w} inv i (Take g l) en = told_same (w.nodes i) (change i (w.nodes i) (Take g l)) en.1.0 refl refl
on_told {w = w} inv i (Grow l) en = told_same (w.nodes i) (change i (w.nodes i) (Grow l)) en.1.0 refl refl
on_told {w = w} inv i (Append e) en = told_same (w.nodes i) (change i (w.nodes i) (Append e)) (let h : (w.nodes i).accepted ≡ (w.nodes i).promised = ((inv.local i).heads en.1).0 in omega arith) refl refl
on_told {w = w} inv i (LearnLead l) en = record { promised = omega arith; durables = λ x h. there h; pings = λ x h. h }
on_told {w = w} inv i (LearnFollow l) en = told_same (w.nodes i) (change i (w.nodes i) (LearnFollow l)) (omega arith) refl refl
on_told {w = w} inv i (Asks t) en = told_same (w.nodes i) (w.nodes i) (omega arith) refl refl
on_told {w = w} inv i (Probe t) en = record { promised = omega arith; durables = λ x h. h; pings = λ x h. there h }
on_told {w = w} inv i (Confirm t g) en = told_same (w.nodes i) (change i (w.nodes i) (Confirm t g)) (omega arith) refl refl

-- a leader that knows its adopted log durable knows each position that was answered in a generation not above its own
pub answered_known : {E : Type 0} {n : ℕ} {w : World E} → FreshInv n w → (i : ℕ) → (w.nodes i).leading ≡ true → (w.nodes i).adopted ≤ (w.nodes i).durable → (p g : ℕ) → IsPositionAnswered w p g → g ≤ (w.nodes i).accepted → p ≤ (w.nodes i).durable
answered_known {E} {n} {w} v i lead known p g ans le = go ans (lt_or_eq g (w.nodes i).accepted le)
  where
    head : Has (λ l. (l.gen ≡ (w.nodes i).accepted) × (length l.log ≤ (w.nodes i).adopted)) (w.nodes i).leads
    head = (v.local i).adopted lead

    -- told by the same node, which leads on
    same : (m q : ℕ) → Told (w.nodes m) g q → g ≡ (w.nodes i).accepted → q ≤ (w.nodes i).durable
    same m q t e =
        let i' : m ≡ i = one_leader v.inv m i t.led.it head.it t.led.mem head.mem (t.led.is ∙ (e ∙ sym head.is.0)) in
        (subst (λ k. Told (w.nodes k) g q) i' t).still lead e

    -- durable in a lower generation: the adopted log begins with it
    lower : (h : ℕ) (d : List E) → DurableIn n w h d → h < (w.nodes i).accepted → length d ≤ (w.nodes i).durable
    lower h d dur lt =
        let e : head.it.gen ≡ (w.nodes i).accepted = head.is.0 in
        let s : length head.it.log ≤ (w.nodes i).adopted = head.is.1 in
        let q = front_length (adopts v.inv h d dur head.it.gen i head.it head.mem (omega arith) (omega arith)) in
        omega arith

    go : IsPositionAnswered w p g → (g < (w.nodes i).accepted) ⊎ (g ≡ (w.nodes i).accepted) → p ≤ (w.nodes i).durable
    go (inl c) (inl lt) =
        let x = c.1 in
        let e : x.it.gen ≡ g = x.is.0 in
        let s : p ≤ length x.it.log = x.is.1 in
        let q = lower x.it.gen x.it.log ((v.inv.refs c.0).durables.at x.it x.mem) (omega arith) in
        omega arith
    go (inl c) (inr eq) =
        let x = c.1 in
        let s : p ≤ length x.it.log = x.is.1 in
        let q = same c.0 (length x.it.log) (subst (λ t. Told (w.nodes c.0) t (length x.it.log)) x.is.0 ((v.local c.0).durables.at x.it x.mem)) eq in
        omega arith
    go (inr c) (inl lt) =
        let x = c.1 in
        let e : x.it.gen ≡ g = x.is.0 in
        let s : p ≤ x.it.durable = x.is.1 in
        let b = ((v.refs c.0).pings.at x.it x.mem).0 in
        let b1 : b.0 ≤ x.it.gen = b.1 in
        let b4 : x.it.durable ≤ length b.2 = b.4 in
        let q = lower b.0 b.2 b.3 (omega arith) in
        omega arith
    go (inr c) (inr eq) =
        let x = c.1 in
        let s : p ≤ x.it.durable = x.is.1 in
        let q = same c.0 x.it.durable (subst (λ t. Told (w.nodes c.0) t x.it.durable) x.is.0 ((v.local c.0).pings.at x.it x.mem)) eq in
        omega arith

-- a ping of this ask is of a generation not below what the node had promised, and of a position not below what was answered up to that generation
abbrev pub PingSince : {E : Type 0} → World E → ℕ → ℕ → Ping → Type 0
PingSince w t k x = x.ask ≡ t → ((w.nodes k).promised ≤ x.gen) × ((p g : ℕ) → IsPositionAnswered w p g → g ≤ x.gen → p ≤ x.durable)

pub record PartSince {E : Type 0} (w : World E) (t k : ℕ) (o : Own E) : Type 0 where
  pub told : OnTold (w.nodes k) o
  pub pings : Each (PingSince w t k) o.pings
  pub pongs : Each (λ x. x.ask ≡ t → (w.nodes k).promised ≤ x.gen) o.pongs

pub told_trans : {E : Type 0} {o p q : Own E} → OnTold o p → OnTold p q → OnTold o q
told_trans a b = record { promised = let x = a.promised in let y = b.promised in omega arith; durables = λ x h. b.durables x (a.durables x h); pings = λ x h. b.pings x (a.pings x h) }

pub answered_on : {E : Type 0} (w v : World E) (p g : ℕ) → ((k : ℕ) → OnTold (w.nodes k) (v.nodes k)) → IsPositionAnswered w p g → IsPositionAnswered v p g
answered_on w v p g on (inl c) = inl (c.0, record { it = c.1.it; mem = (on c.0).durables c.1.it c.1.mem; is = c.1.is })
answered_on w v p g on (inr c) = inr (c.0, record { it = c.1.it; mem = (on c.0).pings c.1.it c.1.mem; is = c.1.is })

pub since_row : {E : Type 0} {n : ℕ} {w : World E} → FreshInv n w → (z : World E) (t i : ℕ) (e : NodeEvent E) → Enabled n w i (w.nodes i) e → ((k : ℕ) → PartSince z t k (w.nodes k)) → PartSince z t i (change i (w.nodes i) e)
since_row {w = w} v z t i (Probe u) en all =
    let s = all i in
    let on = told_trans s.told (on_told v.inv i (Probe u) en) in
    let h : (w.nodes i).accepted ≡ (w.nodes i).promised = ((v.inv.local i).heads en.1).0 in
    let le : (z.nodes i).promised ≤ (w.nodes i).promised = s.told.promised in
    record {
      told = on;
      pings = each_add (λ same. (omega arith, λ p g a low. answered_known v i en.1 en.4 p g (answered_on z w p g (λ k. (all k).told) a) low)) s.pings;
      pongs = s.pongs;
    }
since_row {w = w} v z t i (Confirm u g) en all =
    let s = all i in
    let le : (z.nodes i).promised ≤ (w.nodes i).promised = s.told.promised in
    let le' : (w.nodes i).promised ≤ g = en.1 in
    record { told = told_trans s.told (on_told v.inv i (Confirm u g) en); pings = s.pings; pongs = each_add (λ same. omega arith) s.pongs }
since_row v z t i (Admits k p a) en all = let s = all i in record { told = told_trans s.told (on_told v.inv i (Admits k p a) en); pings = s.pings; pongs = s.pongs }
since_row v z t i (Boot p a l) en all = let s = all i in record { told = told_trans s.told (on_told v.inv i (Boot p a l) en); pings = s.pings; pongs = s.pongs }
since_row v z t i Down en all = let s = all i in record { told = told_trans s.told (on_told v.inv i Down en); pings = s.pings; pongs = s.pongs }
since_row v z t i (Back p) en all = let s = all i in record { told = told_trans s.told (on_told v.inv i (Back p) en); pings = s.pings; pongs = s.pongs }
since_row v z t i BackLead en all = let s = all i in record { told = told_trans s.told (on_told v.inv i BackLead en); pings = s.pings; pongs = s.pongs }
since_row v z t i (BackTake g l) en all = let s = all i in record { told = told_trans s.told (on_told v.inv i (BackTake g l) en); pings = s.pings; pongs = s.pongs }
since_row v z t i (BackGrow l) en all = let s = all i in record { told = told_trans s.told (on_told v.inv i (BackGrow l) en); pings = s.pings; pongs = s.pongs }
since_row v z t i (BackAppend e) en all = let s = all i in record { told = told_trans s.told (on_told v.inv i (BackAppend e) en); pings = s.pings; pongs = s.pongs }
since_row v z t i (Stand g) en all = let s = all i in record { told = told_trans s.told (on_told v.inv i (Stand g) en); pings = s.pings; pongs = s.pongs }
since_row v z t i (Grants g to) en all = let s = all i in record { told = told_trans s.told (on_told v.inv i (Grants g to) en); pings = s.pings; pongs = s.pongs }
since_row v z t i Lead en all = let s = all i in record { told = told_trans s.told (on_told v.inv i Lead en); pings = s.pings; pongs = s.pongs }
since_row v z t i (Take g l) en all = let s = all i in record { told = told_trans s.told (on_told v.inv i (Take g l) en); pings = s.pings; pongs = s.pongs }
since_row v z t i (Grow l) en all = let s = all i in record { told = told_trans s.told (on_told v.inv i (Grow l) en); pings = s.pings; pongs = s.pongs }
since_row v z t i (Append e) en all = let s = all i in record { told = told_trans s.told (on_told v.inv i (Append e) en); pings = s.pings; pongs = s.pongs }
since_row v z t i (LearnLead l) en all = let s = all i in record { told = told_trans s.told (on_told v.inv i (LearnLead l) en); pings = s.pings; pongs = s.pongs }
since_row v z t i (LearnFollow l) en all = let s = all i in record { told = told_trans s.told (on_told v.inv i (LearnFollow l) en); pings = s.pings; pongs = s.pongs }
since_row v z t i (Asks u) en all = let s = all i in record { told = told_trans s.told (on_told v.inv i (Asks u) en); pings = s.pings; pongs = s.pongs }

-- just after the ask there is no ping of it
pub first : {E : Type 0} {n : ℕ} {z : World E} → FreshInv n z → (s t : ℕ) → Each (λ u. u ≢ t) z.asks → (k : ℕ) → PartSince z t k ((happens z s (Asks t)).nodes k)
first {E} {n} {z} v s t new k = at_node z s (Asks t) (λ j o. PartSince z t j o) k (part s) (part k)
  where
    part : (j : ℕ) → PartSince z t j (z.nodes j)
    part j = record {
      told = told_same (z.nodes j) (z.nodes j) (omega arith) refl refl;
      pings = record { at = λ x h e. (let u = ((v.refs j).pings.at x h).1 in absurd (new.at u.it u.mem (u.is ∙ e))) };
      pongs = record { at = λ x h e. (let u = (v.refs j).pongs.at x h in absurd (new.at u.it u.mem (u.is ∙ e))) };
    }

pub since : {E : Type 0} (n s t : ℕ) (before later : List (ℕ × NodeEvent E)) → Legal n (later ++ (s, Asks t) ∷ before) → (k : ℕ) → PartSince (after before) t k ((after (later ++ (s, Asks t) ∷ before)).nodes k)
since n s t before [] legal k = first (always_fresh n before legal.1) s t legal.0 k
since n s t before (x ∷ later) legal k =
    let old = since n s t before later legal.1 in
    at_node (after (later ++ (s, Asks t) ∷ before)) x.0 x.1 (λ j o. PartSince (after before) t j o) k (since_row (always_fresh n (later ++ (s, Asks t) ∷ before) legal.1) (after before) t x.0 x.1 legal.0 old) (old k)

-- what was answered before the ask was answered in a generation not above the begin's
pub answered_led : {E : Type 0} {n : ℕ} {w : World E} → FreshInv n w → (p g : ℕ) → IsPositionAnswered w p g → (m : ℕ) × Has (λ l. l.gen ≡ g) (w.nodes m).leads
answered_led v p g (inl c) = let t = ((v.local c.0).durables.at c.1.it c.1.mem).led in (c.0, record { it = t.it; mem = t.mem; is = t.is ∙ c.1.is.0 })
answered_led v p g (inr c) = let t = ((v.local c.0).pings.at c.1.it c.1.mem).led in (c.0, record { it = t.it; mem = t.mem; is = t.is ∙ c.1.is.0 })

pub led_before : {E : Type 0} (n s t b g m : ℕ) (before later : List (ℕ × NodeEvent E)) (l : Claim E) → Legal n (later ++ (s, Asks t) ∷ before) → CanBegin n (after (later ++ (s, Asks t) ∷ before)) t b g → In l ((after before).nodes m).leads → l.gen ≤ g
led_before {E} n s t b g m before later l legal can hl =
    let inv = (always_fresh n before (legal_tail n later ((s, Asks t) ∷ before) legal).1).inv in
    let r = meet can.2 ((inv.refs m).led.at l hl) in
    go inv r.0 r.1 r.2
  where
    z : World E
    z = after before

    w : World E
    w = after (later ++ (s, Asks t) ∷ before)

    mine : (k : ℕ) → PartSince z t k (w.nodes k)
    mine k = since n s t before later legal k

    answer : (k : ℕ) → (k ≡ can.0) ⊎ Has (λ x. (x.ask ≡ t) × (x.gen ≡ g)) (w.nodes k).pongs → (z.nodes k).promised ≤ g
    answer k (inl e) =
        let x = can.1 in
        let h : (z.nodes can.0).promised ≤ x.it.gen = ((mine can.0).pings.at x.it x.mem x.is.0).0 in
        let h' : (z.nodes k).promised ≤ x.it.gen = subst (λ j. (z.nodes j).promised ≤ x.it.gen) (sym e) h in
        let xg : x.it.gen ≡ g = x.is.1 in
        omega arith
    answer k (inr x) =
        let h : (z.nodes k).promised ≤ x.it.gen = (mine k).pongs.at x.it x.mem x.is.0 in
        let xg : x.it.gen ≡ g = x.is.1 in
        omega arith

    go : Inv n z → (k : ℕ) → (k ≡ can.0) ⊎ Has (λ x. (x.ask ≡ t) × (x.gen ≡ g)) (w.nodes k).pongs → IsGranted z l.gen m k → l.gen ≤ g
    go inv k a x =
        let h = answer k a in
        let low : x.it.gen ≤ (z.nodes k).promised = ((inv.local k).grants.at x.it x.mem).low in
        let xg : x.it.gen ≡ l.gen = x.is.0 in
        omega arith

pub fresh_begin : {E : Type 0} (n s t b g p q : ℕ) (before later : List (ℕ × NodeEvent E)) → Legal n (later ++ (s, Asks t) ∷ before) → CanBegin n (after (later ++ (s, Asks t) ∷ before)) t b g → IsPositionAnswered (after before) p q → p ≤ b
fresh_begin {E} n s t b g p q before later legal can ans =
    let v = always_fresh n before (legal_tail n later ((s, Asks t) ∷ before) legal).1 in
    let l = answered_led v p q ans in
    let low = led_before n s t b g l.0 before later l.1.it legal can l.1.mem in
    let e : l.1.it.gen ≡ q = l.1.is in
    let x = can.1 in
    let xg : x.it.gen ≡ g = x.is.1 in
    let xb : x.it.durable ≡ b = x.is.2 in
    let r : p ≤ x.it.durable = ((since n s t before later legal can.0).pings.at x.it x.mem x.is.0).1 p q ans (omega arith) in
    omega arith

-- the position of a begin is durable
pub begin_durable : {E : Type 0} (n t b g : ℕ) (h : List (ℕ × NodeEvent E)) → Legal n h → CanBegin n (after h) t b g → (d : List E) × DurableAt n h d × (b ≤ length d)
begin_durable n t b g h legal can =
    let x = can.1 in
    let r = (((always_fresh n h legal).refs can.0).pings.at x.it x.mem).0 in
    let xb : x.it.durable ≡ b = x.is.2 in
    let r4 : x.it.durable ≤ length r.2 = r.4 in
    (r.2, (r.0, r.3), omega arith)
