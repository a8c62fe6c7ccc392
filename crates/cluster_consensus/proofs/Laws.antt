-- The laws of each legal history.
use Rattle.std.proofs.Common.{◌≡◌, ℕ, ◌<◌, ◌≤◌, List, [], ◌∷◌, ◌++◌, length, take, arith, refl, ap, sym, subst}
use mathlib.Core.Logic.{◌⊎◌, inl, inr}
use Rattle.cluster_consensus.proofs.FactSteps.{durable_grows, took_begins, grown}
use Rattle.cluster_consensus.proofs.Generations.{durable_either, begins, one_leader, one_log, led_above}
use Rattle.cluster_consensus.proofs.Invariant.{Inv, Known}
use Rattle.cluster_consensus.proofs.Kept.{always, at_node, grows_row}
use Rattle.cluster_consensus.specs.Durable.{DurableIn, DurableAt}
use Rattle.cluster_consensus.specs.Enabled.{Enabled}
use Rattle.cluster_consensus.specs.Events.{NodeEvent, change}
use Rattle.cluster_consensus.specs.Events.NodeEvent.{Admits, Boot, Down, Back, BackLead, BackTake, BackGrow, BackAppend, Stand, Grants, Lead, Take, Grow, Append, LearnLead, LearnFollow, Asks, Probe, Confirm}
use Rattle.cluster_consensus.specs.Facts.{Claim, Own, World, Admit}
use Rattle.cluster_consensus.specs.Histories.{Legal, happens, after}
use Rattle.core_lists.proofs.Fronts.{front_trans, front_append, front_take}
use Rattle.core_lists.proofs.Numbers.{lt_or_eq}
use Rattle.core_lists.specs.Fronts.{Front}
use Rattle.core_lists.specs.Fronts.Front.{front_nil}
use Rattle.core_lists.specs.Lists.{In}

-- of two durable logs one is a front of the other
pub agree : {E : Type 0} (n : ℕ) (h : List (ℕ × NodeEvent E)) (d e : List E) → Legal n h → DurableAt n h d → DurableAt n h e → Front d e ⊎ Front e d
agree n h d e legal p q = durable_either (always n h legal) p.0 q.0 d e p.1 q.1

-- later generations keep durable logs
pub begin : {E : Type 0} (n g k : ℕ) (h : List (ℕ × NodeEvent E)) (d : List E) (c : Claim E) → Legal n h → DurableIn n (after h) g d → In c ((after h).nodes k).accepts → g < c.gen → Front d c.log
begin n g k h d c legal dur hc lt = begins (always n h legal) g d dur k c hc lt

-- what is known as durable is durable
pub known_durable : {E : Type 0} (n i : ℕ) (h : List (ℕ × NodeEvent E)) → Legal n h → 0 < ((after h).nodes i).durable → DurableAt n h (take ((after h).nodes i).durable ((after h).nodes i).log)
known_durable {E} n i h legal pos = go ((always n h legal).refs i).known
  where
    go : Known n (after h) ((after h).nodes i) → DurableAt n h (take ((after h).nodes i).durable ((after h).nodes i).log)
    go (inl e) = absurd (omega arith)
    go (inr k) = (k.0, k.2)

pub known_within : {E : Type 0} (n i : ℕ) (h : List (ℕ × NodeEvent E)) → Legal n h → ((after h).nodes i).durable ≤ length ((after h).nodes i).log
known_within n i h legal = ((always n h legal).refs i).fits

-- a log that is durable in a generation that the node accepted or passed, and begins its log
pub record Stands {E : Type 0} (n : ℕ) (w : World E) (i : ℕ) (d : List E) (o : Own E) : Type 0 where
  pub gen : ℕ
  pub low : gen ≤ o.accepted
  pub durable : DurableIn n w gen d
  pub begins : Front d o.log

empty_first : {E : Type 0} (d : List E) → Front d [] → d ≡ []
empty_first d front_nil = refl

boot_gen : (a b : ℕ) → a ≡ 0 → (0 < b) ⊎ (0 ≡ b) → (b ≡ a) ⊎ (a < b)
boot_gen a b e (inl lt) = inr (omega arith)
boot_gen a b e (inr eq) = inl (omega arith)

-- in one part: what the log becomes begins with it
stand_row : {E : Type 0} {n : ℕ} {w : World E} → Inv n w → (i : ℕ) (e : NodeEvent E) → Enabled n w i (w.nodes i) e → (d : List E) → Stands n w i d (w.nodes i)
    → (((change i (w.nodes i) e).accepted ≡ (w.nodes i).accepted) ⊎ ((w.nodes i).accepted < (change i (w.nodes i) e).accepted)) × Front d (change i (w.nodes i) e).log
stand_row inv i (Admits k p a) en d s = (inl refl, s.begins)
stand_row {w = w} inv i (Boot p a l) en d s =
    let same = (inv.local i).fresh en.1 in
    let zero' : (w.nodes i).accepted ≡ 0 = ap (λ o. o.accepted) same in
    let none : d ≡ [] = empty_first d (subst (λ t. Front d t) (ap (λ o. o.log) same) s.begins) in
    (boot_gen (w.nodes i).accepted a zero' (lt_or_eq 0 a (omega arith)), subst (λ t. Front t l) (sym none) front_nil)
stand_row inv i Down en d s = (inl refl, s.begins)
stand_row inv i (Back p) en d s = (inl refl, s.begins)
stand_row inv i BackLead en d s = (inr en.2.0, s.begins)
stand_row inv i (BackTake g l) en d s = (inr en.2.1, took_begins inv g l en.2.2 s.gen d (let lt = en.2.1 in let low = s.low in omega arith) s.durable)
stand_row inv i (BackGrow l) en d s = (inl refl, front_trans s.begins (grown inv i l en.2).0)
stand_row {w = w} inv i (BackAppend e) en d s = (inl refl, front_trans s.begins (front_append (w.nodes i).log (e ∷ [])))
stand_row inv i (Stand g) en d s = (inl refl, s.begins)
stand_row inv i (Grants g to) en d s = (inl refl, s.begins)
stand_row inv i Lead en d s = (inr en.1.0, s.begins)
stand_row inv i (Take g l) en d s = (inr en.1.1, took_begins inv g l en.1.2 s.gen d (let lt = en.1.1 in let low = s.low in omega arith) s.durable)
stand_row inv i (Grow l) en d s = (inl refl, front_trans s.begins (grown inv i l en.1).0)
stand_row {w = w} inv i (Append e) en d s = (inl refl, front_trans s.begins (front_append (w.nodes i).log (e ∷ [])))
stand_row inv i (LearnLead l) en d s = (inl refl, s.begins)
stand_row inv i (LearnFollow l) en d s = (inl refl, s.begins)
stand_row inv i (Asks t) en d s = (inl refl, s.begins)
stand_row inv i (Probe t) en d s = (inl refl, s.begins)
stand_row inv i (Confirm t g) en d s = (inl refl, s.begins)

stands_kept : {E : Type 0} {n : ℕ} {w : World E} → Inv n w → (j : ℕ) (e : NodeEvent E) → Enabled n w j (w.nodes j) e → (i : ℕ) (d : List E) → Stands n w i d (w.nodes i) → Stands n (happens w j e) i d ((happens w j e).nodes i)
stands_kept {E} {n} {w} inv j e en i d s = at_node w j e (λ k o. k ≡ i → Stands n (happens w j e) i d o) i (λ same. moved same) (λ same. old) refl
  where
    old : Stands n (happens w j e) i d (w.nodes i)
    old = record { gen = s.gen; low = s.low; durable = durable_grows (grows_row w j e) s.durable; begins = s.begins }

    le : (a b c : ℕ) → a ≤ b → (c ≡ b) ⊎ (b < c) → a ≤ c
    le a b c h (inl eq) = omega arith
    le a b c h (inr lt) = omega arith

    moved : j ≡ i → Stands n (happens w j e) i d (change j (w.nodes j) e)
    moved same =
        let r = stand_row inv j e en d (subst (λ k. Stands n w k d (w.nodes k)) (sym same) s) in
        record { gen = s.gen; low = le s.gen (w.nodes j).accepted (change j (w.nodes j) e).accepted (subst (λ k. s.gen ≤ (w.nodes k).accepted) (sym same) s.low) r.0; durable = durable_grows (grows_row w j e) s.durable; begins = r.1 }

pub legal_tail : {E : Type 0} (n : ℕ) (later h : List (ℕ × NodeEvent E)) → Legal n (later ++ h) → Legal n h
legal_tail n [] h legal = legal
legal_tail n (x ∷ later) h legal = legal_tail n later h legal.1

-- a durable log never leaves a log that begins with it, of a node that accepted in that generation or a later one
pub stands : {E : Type 0} (n i : ℕ) (h later : List (ℕ × NodeEvent E)) (d : List E) → Legal n (later ++ h) → Stands n (after h) i d ((after h).nodes i) → Stands n (after (later ++ h)) i d ((after (later ++ h)).nodes i)
stands n i h [] d legal s = s
stands n i h (x ∷ later) d legal s = stands_kept (always n (later ++ h) legal.1) x.0 x.1 legal.0 i d (stands n i h later d legal.1 s)

pub known_stays : {E : Type 0} (n i : ℕ) (h later : List (ℕ × NodeEvent E)) → Legal n (later ++ h) → Front (take ((after h).nodes i).durable ((after h).nodes i).log) ((after (later ++ h)).nodes i).log
known_stays {E} n i h later legal = go ((always n h (legal_tail n later h legal)).refs i).known
  where
    o : Own E
    o = (after h).nodes i

    go : Known n (after h) ((after h).nodes i) → Front (take ((after h).nodes i).durable ((after h).nodes i).log) ((after (later ++ h)).nodes i).log
    go (inl e) = subst (λ t. Front (take t ((after h).nodes i).log) ((after (later ++ h)).nodes i).log) (sym e) front_nil
    go (inr k) = (stands n i h later (take ((after h).nodes i).durable ((after h).nodes i).log) legal (record { gen = k.0; low = k.1; durable = k.2; begins = front_take ((after h).nodes i).durable ((after h).nodes i).log })).begins

-- a generation has one leader, above what was admitted
pub one : {E : Type 0} (n m k : ℕ) (h : List (ℕ × NodeEvent E)) (a b : Claim E) → Legal n h → In a ((after h).nodes m).leads → In b ((after h).nodes k).leads → a.gen ≡ b.gen → (m ≡ k) × (a.log ≡ b.log)
one n m k h a b legal ha hb e =
    let inv = always n h legal in
    let same : m ≡ k = one_leader inv m k a b ha hb e in
    (same, one_log inv m a b ha (subst (λ t. In b ((after h).nodes t).leads) (sym same) hb) e)

pub above : {E : Type 0} (n m : ℕ) (h : List (ℕ × NodeEvent E)) (l : Claim E) (a : Admit) → Legal n h → In l ((after h).nodes m).leads → In a (after h).admits → a.accepted < l.gen
above n m h l a legal hl ha = led_above (always n h legal) m l a hl ha

-- what is durable stays durable
pub durable_stays : {E : Type 0} (n g : ℕ) (h later : List (ℕ × NodeEvent E)) (d : List E) → Legal n (later ++ h) → DurableIn n (after h) g d → DurableIn n (after (later ++ h)) g d
durable_stays n g h [] d legal dur = dur
durable_stays n g h (x ∷ later) d legal dur = durable_grows (grows_row (after (later ++ h)) x.0 x.1) (durable_stays n g h later d legal.1 dur)
