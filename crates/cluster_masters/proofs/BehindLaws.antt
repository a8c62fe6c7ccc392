-- Behind what the first durable adoption left, each entry of a log accepted from then on was appended by the rule.
use Rattle.std.proofs.Common.{◌≡◌, ℕ, ◌<◌, ◌≤◌, List, [], ◌∷◌, ◌++◌, length, arith, sym, subst, ◌∙◌, length-append}
use Rattle.std.specs.Prelude.{zero, suc}
use mathlib.Core.Logic.{◌⊎◌, inl, inr}
use Rattle.cluster_consensus.proofs.Adopted.{adopted_from}
use Rattle.cluster_consensus.proofs.Generations.{one_leader, one_log}
use Rattle.cluster_consensus.proofs.Invariant.{Inv}
use Rattle.cluster_consensus.proofs.Kept.{always}
use Rattle.cluster_consensus.specs.Durable.{DurableIn}
use Rattle.cluster_consensus.specs.Events.{NodeEvent}
use Rattle.cluster_consensus.specs.Facts.{Claim, World}
use Rattle.cluster_consensus.specs.Histories.{Legal, after}
use Rattle.cluster_masters.proofs.Added.{Added, added}
use Rattle.cluster_masters.specs.Appended.{AllAppend, IsBetween, EachBehind}
use Rattle.core_lists.proofs.Fronts.{front_trans, front_shorter}
use Rattle.core_lists.proofs.Numbers.{lt_or_eq, lt_or_le}
use Rattle.core_lists.specs.Fronts.{Front}
use Rattle.core_lists.specs.Lists.{In, Each}

abbrev pub IsBehind : {E : Type 0} → (ℕ → List E → E → Type 0) → Claim E → Claim E → Type 0
IsBehind R l c = Front l.log c.log × EachBehind R l.gen c.gen l.log c.log

-- what an acceptance begins with
into : {E : Type 0} {R : ℕ → List E → E → Type 0} {n : ℕ} {w : World E} → Inv n w → (k : ℕ) (c : Claim E) → In c (w.nodes k).accepts → (a : Added R w c) → Front a.lead.log c.log
into {w = w} inv k c hc a =
    let x = (inv.refs k).follows.at c hc in
    let by : x.by ≡ a.by = one_leader inv x.by a.by x.adopted.it a.lead x.adopted.mem a.mem (x.adopted.is.0 ∙ sym a.gen) in
    let mem : In x.adopted.it (w.nodes a.by).leads = subst (λ t. In x.adopted.it (w.nodes t).leads) by x.adopted.mem in
    subst (λ t. Front t c.log) (one_log inv a.by x.adopted.it a.lead mem a.mem (x.adopted.is.0 ∙ sym a.gen)) x.adopted.is.1

-- in the generation of the adoption itself
same : {E : Type 0} {R : ℕ → List E → E → Type 0} {n : ℕ} {w : World E} → Inv n w → ((k : ℕ) → Each (Added R w) (w.nodes k).accepts) → (m : ℕ) (l : Claim E) → In l (w.nodes m).leads → (k : ℕ) (c : Claim E) → In c (w.nodes k).accepts → l.gen ≡ c.gen → IsBehind R l c
same {E} {R} {n} {w} inv all m l hl k c hc eq = (subst (λ t. Front t c.log) (sym log) front, each)
  where
    a : Added R w c
    a = (all k).at c hc

    by : m ≡ a.by
    by = one_leader inv m a.by l a.lead hl a.mem (eq ∙ sym a.gen)

    log : l.log ≡ a.lead.log
    log = one_log inv a.by l a.lead (subst (λ t. In l (w.nodes t).leads) by hl) a.mem (eq ∙ sym a.gen)

    front : Front a.lead.log c.log
    front = into inv k c hc a

    each : (xs : List E) (e : E) → Front (xs ++ e ∷ []) c.log → length l.log ≤ length xs → IsBetween R l.gen c.gen xs e
    each xs e p le = record { gen = c.gen; from = omega arith; to = omega arith; rule = a.rest xs e p (subst (λ t. length t ≤ length xs) log le) }

-- above it
above : {E : Type 0} {R : ℕ → List E → E → Type 0} {n : ℕ} {w : World E} → Inv n w → ((k : ℕ) → Each (Added R w) (w.nodes k).accepts) → (l : Claim E) → DurableIn n w l.gen l.log → (b k : ℕ) (c : Claim E) → In c (w.nodes k).accepts → c.gen ≤ suc b → l.gen < c.gen
    → ((k : ℕ) (c : Claim E) → In c (w.nodes k).accepts → c.gen ≤ b → l.gen ≤ c.gen → IsBehind R l c) → IsBehind R l c
above {E} {R} {n} {w} inv all l dur b k c hc top lt ih = (front_trans first front, λ xs e p le. split xs e p le (lt_or_le (length xs) (length a.lead.log)))
  where
    a : Added R w c
    a = (all k).at c hc

    front : Front a.lead.log c.log
    front = into inv k c hc a

    low : l.gen < a.lead.gen
    low = let g : a.lead.gen ≡ c.gen = a.gen in omega arith

    earlier : IsBehind R l (adopted_from inv l.gen l.log dur a.by a.lead a.mem low).it
    earlier =
        let o = adopted_from inv l.gen l.log dur a.by a.lead a.mem low in
        let g : a.lead.gen ≡ c.gen = a.gen in
        let o1 : o.it.gen < a.lead.gen = o.is.1 in
        ih a.by o.it o.mem (omega arith) o.is.0

    first : Front l.log a.lead.log
    first = subst (λ t. Front l.log t) (adopted_from inv l.gen l.log dur a.by a.lead a.mem low).is.2 earlier.0

    below : (adopted_from inv l.gen l.log dur a.by a.lead a.mem low).it.gen ≤ c.gen
    below =
        let o = adopted_from inv l.gen l.log dur a.by a.lead a.mem low in
        let g : a.lead.gen ≡ c.gen = a.gen in
        let o1 : o.it.gen < a.lead.gen = o.is.1 in
        omega arith

    at_most : (x y z : ℕ) → x ≤ y → y ≤ z → x ≤ z
    at_most x y z p q = omega arith

    split : (xs : List E) (e : E) → Front (xs ++ e ∷ []) c.log → length l.log ≤ length xs → (length xs < length a.lead.log) ⊎ (length a.lead.log ≤ length xs) → IsBetween R l.gen c.gen xs e
    split xs e p le (inl short) =
        let o = adopted_from inv l.gen l.log dur a.by a.lead a.mem low in
        let s = length-append xs (e ∷ []) in
        let q : Front (xs ++ e ∷ []) a.lead.log = front_shorter p front (omega arith) in
        let r = earlier.1 xs e (subst (λ t. Front (xs ++ e ∷ []) t) (sym o.is.2) q) le in
        record { gen = r.gen; from = r.from; to = at_most r.gen (adopted_from inv l.gen l.log dur a.by a.lead a.mem low).it.gen c.gen r.to below; rule = r.rule }
    split xs e p le (inr long) = record { gen = c.gen; from = omega arith; to = omega arith; rule = a.rest xs e p long }

step : {E : Type 0} {R : ℕ → List E → E → Type 0} {n : ℕ} {w : World E} → Inv n w → ((k : ℕ) → Each (Added R w) (w.nodes k).accepts) → (m : ℕ) (l : Claim E) → In l (w.nodes m).leads → DurableIn n w l.gen l.log → (b k : ℕ) (c : Claim E) → In c (w.nodes k).accepts → c.gen ≤ suc b → (l.gen < c.gen) ⊎ (l.gen ≡ c.gen)
    → ((k : ℕ) (c : Claim E) → In c (w.nodes k).accepts → c.gen ≤ b → l.gen ≤ c.gen → IsBehind R l c) → IsBehind R l c
step inv all m l hl dur b k c hc top (inr eq) ih = same inv all m l hl k c hc eq
step inv all m l hl dur b k c hc top (inl lt) ih = above inv all l dur b k c hc top lt ih

behind : {E : Type 0} {R : ℕ → List E → E → Type 0} {n : ℕ} {w : World E} → Inv n w → ((k : ℕ) → Each (Added R w) (w.nodes k).accepts) → (m : ℕ) (l : Claim E) → In l (w.nodes m).leads → DurableIn n w l.gen l.log → (b k : ℕ) (c : Claim E) → In c (w.nodes k).accepts → c.gen ≤ b → l.gen ≤ c.gen → IsBehind R l c
behind inv all m l hl dur zero k c hc top low = same inv all m l hl k c hc (omega arith)
behind inv all m l hl dur (suc b) k c hc top low = step inv all m l hl dur b k c hc top (lt_or_eq l.gen c.gen low) (λ k c hc top low. behind inv all m l hl dur b k c hc top low)

pub behind_base : {E : Type 0} (R : ℕ → List E → E → Type 0) (n k m : ℕ) (h : List (ℕ × NodeEvent E)) (l c : Claim E) → Legal n h → AllAppend R h → In l ((after h).nodes m).leads → DurableIn n (after h) l.gen l.log → In c ((after h).nodes k).accepts → l.gen ≤ c.gen → IsBehind R l c
behind_base R n k m h l c legal new hl dur hc low = behind (always n h legal) (added R n h legal new) m l hl dur c.gen k c hc (omega arith) low
