-- A property of whole logs that each appended log and each store's log has, each log of a node has.
use Rattle.std.proofs.Common.{◌≡◌, ℕ, ◌<◌, ◌≤◌, List, [], ◌∷◌, ◌++◌, length, arith, refl, ap, sym, subst, ◌∙◌, length-append}
use mathlib.Core.Logic.{◌⊎◌, inl, inr}
use Rattle.core_lists.specs.Lists.{In, Each}
use Rattle.core_lists.specs.Fronts.{Front}
use Rattle.core_lists.proofs.Lists.{each_add, each_none}
use Rattle.core_lists.proofs.Fronts.{front_same, front_shorter}
use Rattle.core_lists.proofs.Numbers.{lt_or_eq, lt_or_le}
use Rattle.cluster_consensus.specs.Facts.{Claim, Own, World}
use Rattle.cluster_consensus.specs.Events.{NodeEvent, change}
use Rattle.cluster_consensus.specs.Events.NodeEvent.{Boot, BackLead, BackTake, BackGrow, BackAppend, Lead, Take, Grow, Append}
use Rattle.cluster_consensus.specs.Enabled.{Enabled, CanGrow, IsShipped}
use Rattle.cluster_consensus.specs.Durable.{DurableIn}
use Rattle.cluster_consensus.specs.Histories.{Legal, after}
use Rattle.cluster_masters.specs.Appended.{Appends, AllAppend}
use Rattle.cluster_consensus.proofs.FactSteps.{grown}
use Rattle.cluster_consensus.proofs.Generations.{one_leader, one_log, begins}
use Rattle.cluster_consensus.proofs.Invariant.{Inv}
use Rattle.cluster_consensus.proofs.Kept.{always, at_node}
use Rattle.cluster_masters.specs.WholeLogs.{Leaves, AllLeave}
use Rattle.cluster_masters.proofs.Added.{Added, added}
use Rattle.cluster_masters.proofs.BehindLaws.{behind_base}

pub record Wholes {E : Type 0} (S : List E → Type 0) (o : Own E) : Type 0 where
  pub own : S o.log
  pub leads : Each (λ l. S l.log) o.leads
  pub accepts : Each (λ c. S c.log) o.accepts

-- of an entry over the entries before it
abbrev pub Behind : {E : Type 0} → (List E → Type 0) → ℕ → List E → E → Type 0
Behind S g xs e = S (xs ++ e ∷ [])

appends_of : {E : Type 0} (S : List E → Type 0) (o : Own E) (e : NodeEvent E) → Leaves S o e → Appends (Behind S) o e
appends_of S o (Append e) k = k
appends_of S o (BackAppend e) k = k
appends_of S o _ k = tt

all_appends : {E : Type 0} (S : List E → Type 0) (h : List (ℕ × NodeEvent E)) → AllLeave S h → AllAppend (Behind S) h
all_appends S [] k = tt
all_appends S (x ∷ h) k = (appends_of S ((after h).nodes x.0) x.1 k.0, all_appends S h k.1)

pub last_of : {E : Type 0} (l : List E) → (l ≡ []) ⊎ ((xs : List E) × (e : E) × (l ≡ xs ++ e ∷ []))
last_of [] = inl refl
last_of (x ∷ l) = elim (last_of l) [
  | inl q ↦ inr ([], x, ap (λ z. x ∷ z) q)
  | inr q ↦ inr (x ∷ q.0, q.1, ap (λ z. x ∷ z) q.2)
]

-- a log that begins with what its leader adopted, and that is a front of what was accepted in that generation
longer : {E : Type 0} (S : List E → Type 0) (w : World E) (c : Claim E) (a : Added (Behind S) w c) (l : List E) → Front a.lead.log l → Front l c.log → S a.lead.log → S l
longer {E} S w c a l p q s = go (lt_or_le (length a.lead.log) (length l))
  where
    by_last : length a.lead.log < length l → (l ≡ []) ⊎ ((xs : List E) × (e : E) × (l ≡ xs ++ e ∷ [])) → S l
    by_last lt (inl z) = absurd (let y = ap (λ t. length t) z in let y' : length l ≡ 0 = y in omega arith)
    by_last lt (inr z) =
        let y = ap (λ t. length t) z.2 in
        let y' : length l ≡ length (z.0 ++ z.1 ∷ []) = y in
        let n = length-append z.0 (z.1 ∷ []) in
        subst (λ t. S t) (sym z.2) (a.rest z.0 z.1 (subst (λ t. Front t c.log) z.2 q) (omega arith))

    go : (length a.lead.log < length l) ⊎ (length l ≤ length a.lead.log) → S l
    go (inl lt) = by_last lt (last_of l)
    go (inr le) = subst (λ t. S t) (front_same p le) s

-- what is adopted in one generation is one log
one_adopted : {E : Type 0} {n : ℕ} {w : World E} → Inv n w → (j m : ℕ) (x y : Claim E) → In x (w.nodes j).leads → In y (w.nodes m).leads → x.gen ≡ y.gen → x.log ≡ y.log
one_adopted {E} {n} {w} inv j m x y hx hy e =
    let same : j ≡ m = one_leader inv j m x y hx hy e in
    one_log inv m x y (subst (λ t. In x (w.nodes t).leads) same hx) hy e

grow_whole : {E : Type 0} (S : List E → Type 0) {n : ℕ} {w : World E} → Inv n w → ((k : ℕ) → Wholes S (w.nodes k)) → ((k : ℕ) → Each (Added (Behind S) w) (w.nodes k).accepts) → (i : ℕ) (l : List E) → CanGrow w (w.nodes i) l → S l
grow_whole {E} S {n} {w} inv all add i l en =
    let s = en.2 in
    let c = ((inv.local en.1).ships.at s.it s.mem).1 in
    let a = (add en.1).at s.it c in
    let f = (grown inv i l en).1 in
    let e = one_adopted inv f.by a.by f.adopted.it a.lead f.adopted.mem a.mem (f.adopted.is.0 ∙ (sym s.is.0 ∙ sym a.gen)) in
    longer S w s.it a l (subst (λ t. Front t l) e f.adopted.is.1) s.is.1 ((all a.by).leads.at a.lead a.mem)

take_whole : {E : Type 0} (S : List E → Type 0) {n : ℕ} {w : World E} → Inv n w → ((k : ℕ) → Wholes S (w.nodes k)) → (g : ℕ) (l : List E) → IsShipped w g l → S l
take_whole S {n} {w} inv all g l s = subst (λ t. S t) s.1.is.1 ((all s.0).accepts.at s.1.it ((inv.local s.0).ships.at s.1.it s.1.mem).1)

wholes_row : {E : Type 0} (S : List E → Type 0) {n : ℕ} {w : World E} → Inv n w → ((k : ℕ) → Wholes S (w.nodes k)) → ((k : ℕ) → Each (Added (Behind S) w) (w.nodes k).accepts) → (i : ℕ) (e : NodeEvent E) → Enabled n w i (w.nodes i) e → Leaves S (w.nodes i) e → Wholes S (change i (w.nodes i) e)
wholes_row S {n} {w} inv all add i (Boot p a l) en k = record { own = k; leads = (all i).leads; accepts = (all i).accepts }
wholes_row S {n} {w} inv all add i BackLead en k = record { own = (all i).own; leads = each_add (all i).own (all i).leads; accepts = each_add (all i).own (all i).accepts }
wholes_row S {n} {w} inv all add i Lead en k = record { own = (all i).own; leads = each_add (all i).own (all i).leads; accepts = each_add (all i).own (all i).accepts }
wholes_row S {n} {w} inv all add i (BackTake g l) en k = let s = take_whole S inv all g l en.2.2 in record { own = s; leads = (all i).leads; accepts = each_add s (all i).accepts }
wholes_row S {n} {w} inv all add i (Take g l) en k = let s = take_whole S inv all g l en.1.2 in record { own = s; leads = (all i).leads; accepts = each_add s (all i).accepts }
wholes_row S {n} {w} inv all add i (BackGrow l) en k = let s = grow_whole S inv all add i l en.2 in record { own = s; leads = (all i).leads; accepts = each_add s (all i).accepts }
wholes_row S {n} {w} inv all add i (Grow l) en k = let s = grow_whole S inv all add i l en.1 in record { own = s; leads = (all i).leads; accepts = each_add s (all i).accepts }
wholes_row S {n} {w} inv all add i (BackAppend e) en k = record { own = k; leads = (all i).leads; accepts = each_add k (all i).accepts }
wholes_row S {n} {w} inv all add i (Append e) en k = record { own = k; leads = (all i).leads; accepts = each_add k (all i).accepts }
wholes_row S {n} {w} inv all add i _ en k = record { own = (all i).own; leads = (all i).leads; accepts = (all i).accepts }

pub wholes : {E : Type 0} (S : List E → Type 0) (n : ℕ) (h : List (ℕ × NodeEvent E)) → S [] → Legal n h → AllLeave S h → (k : ℕ) → Wholes S ((after h).nodes k)
wholes S n [] none legal all k = record { own = none; leads = each_none; accepts = each_none }
wholes {E} S n (x ∷ h) none legal all k =
    let w : World E = after h in
    let old = wholes S n h none legal.1 all.1 in
    at_node w x.0 x.1 (λ j o. Wholes S o) k (wholes_row S (always n h legal.1) old (added (Behind S) n h legal.1 (all_appends S h all.1)) x.0 x.1 legal.0 all.0) (old k)

-- a log that is accepted from a generation on begins with what was adopted and is durable in that generation
begins_with : {E : Type 0} {n : ℕ} {w : World E} → Inv n w → (m : ℕ) (a : Claim E) → In a (w.nodes m).leads → DurableIn n w a.gen a.log → (k : ℕ) (c : Claim E) → In c (w.nodes k).accepts → a.gen ≤ c.gen → Front a.log c.log
begins_with {E} {n} {w} inv m a ha dur k c hc low = go (lt_or_eq a.gen c.gen low)
  where
    go : (a.gen < c.gen) ⊎ (a.gen ≡ c.gen) → Front a.log c.log
    go (inl lt) = begins inv a.gen a.log dur k c hc lt
    go (inr eq) =
        let f = (inv.refs k).follows.at c hc in
        subst (λ t. Front t c.log) (one_adopted inv f.by m f.adopted.it a f.adopted.mem ha (f.adopted.is.0 ∙ sym eq)) f.adopted.is.1

-- and each front of it from there on has the property
pub fronts : {E : Type 0} (S : List E → Type 0) (n : ℕ) (h : List (ℕ × NodeEvent E)) → S [] → Legal n h → AllLeave S h → (m : ℕ) (a : Claim E) → In a ((after h).nodes m).leads → DurableIn n (after h) a.gen a.log → (k : ℕ) (c : Claim E) → In c ((after h).nodes k).accepts → a.gen ≤ c.gen → (xs : List E) → Front xs c.log → length a.log ≤ length xs → S xs
fronts {E} S n h none legal all m a ha dur k c hc low xs p long = go (lt_or_le (length a.log) (length xs))
  where
    inv : Inv n (after h)
    inv = always n h legal

    by_last : length a.log < length xs → (xs ≡ []) ⊎ ((ys : List E) × (e : E) × (xs ≡ ys ++ e ∷ [])) → S xs
    by_last lt (inl z) = absurd (let y = ap (λ t. length t) z in let y' : length xs ≡ 0 = y in omega arith)
    by_last lt (inr z) =
        let y = ap (λ t. length t) z.2 in
        let y' : length xs ≡ length (z.0 ++ z.1 ∷ []) = y in
        let q = length-append z.0 (z.1 ∷ []) in
        subst (λ t. S t) (sym z.2) ((behind_base (Behind S) n k m h a c legal (all_appends S h all) ha dur hc low).1 z.0 z.1 (subst (λ t. Front t c.log) z.2 p) (omega arith)).rule

    go : (length a.log < length xs) ⊎ (length xs ≤ length a.log) → S xs
    go (inl lt) = by_last lt (last_of xs)
    go (inr le) = subst (λ t. S t) (front_same (front_shorter (begins_with inv m a ha dur k c hc low) p long) le) ((wholes S n h none legal all m).leads.at a ha)
