-- What is durable stands in the reported log, in a leader's log, and behind the base.
use Rattle.std.proofs.Common.{◌≡◌, ℕ, ◌<◌, ◌≤◌, List, length, arith, ap, sym, subst, ◌∙◌}
use Rattle.std.specs.Prelude.{true}
use mathlib.Core.Logic.{◌⊎◌, inl, inr}
use Rattle.core_lists.specs.Lists.{In, Has}
use Rattle.core_lists.specs.Fronts.{Front}
use Rattle.core_lists.specs.Majorities.{Majority}
use Rattle.cluster_consensus.specs.Facts.{Claim, World}
use Rattle.cluster_consensus.specs.Durable.{DurableIn}
use Rattle.cluster_consensus.specs.Enabled.{Below}
use Rattle.cluster_masters.specs.FirstMaster.{IsFirstMaster}
use Rattle.cluster_masters.specs.Reported.{IsReported}
use Rattle.core_lists.proofs.Fronts.{front_refl, front_trans, front_length, front_shorter, front_same}
use Rattle.core_lists.proofs.Majorities.{majority_weaker, some_of, shared}
use Rattle.core_lists.proofs.Numbers.{lt_or_eq}
use Rattle.cluster_consensus.proofs.Invariant.{Inv}
use Rattle.cluster_consensus.proofs.Generations.{one_leader, one_log, comparable, begins, adopts, durable_either}
use Rattle.cluster_consensus.proofs.FactSteps.{holds, leads_log}

-- a majority has a member among the numbers from 1 to n
pub some_in : {n : ℕ} {P : ℕ → Type 0} → Majority n P → (k : ℕ) × (0 < k) × (k ≤ n) × P k
some_in {n} {P} a =
    let m = a.many in
    let r = shared n a.who a.who (omega arith) in
    (r.0, r.1, r.2, a.hold r.0 r.1 r.2 r.3)

-- what is durable in a generation begins the log of who accepted there last, at or above it
pub below_accepted : {E : Type 0} {n : ℕ} {w : World E} → Inv n w → (g : ℕ) (d : List E) → DurableIn n w g d → (k : ℕ) → g < (w.nodes k).accepted → Front d (w.nodes k).log
below_accepted {E} {n} {w} inv g d dur k lt =
    let s = some_of dur in
    let c = s.1 in
    let f = (inv.refs s.0).follows.at c.it c.mem in
    let fg : f.adopted.it.gen ≡ c.it.gen = f.adopted.is.0 in
    let cg : c.it.gen ≡ g = c.is.0 in
    let h = holds inv k f.by f.adopted.it f.adopted.mem (omega arith) in
    let hg : h.it.gen ≡ (w.nodes k).accepted = h.is.0 in
    subst (λ t. Front d t) h.is.1 (begins inv g d dur k h.it h.mem (omega arith))

-- a leader's log begins with each log durable in a generation not above its own
pub leader_has : {E : Type 0} {n : ℕ} {w : World E} → Inv n w → (i : ℕ) → (w.nodes i).leading ≡ true → (g : ℕ) (d : List E) → DurableIn n w g d → g ≤ (w.nodes i).accepted → Front d (w.nodes i).log
leader_has {E} {n} {w} inv i lead g d dur le = go (lt_or_eq g (w.nodes i).accepted le)
  where
    go : (g < (w.nodes i).accepted) ⊎ (g ≡ (w.nodes i).accepted) → Front d (w.nodes i).log
    go (inl lt) = below_accepted inv g d dur i lt
    go (inr eq) =
        let s = some_of dur in
        let c = s.1 in
        let f = (inv.refs s.0).follows.at c.it c.mem in
        let l = leads_log inv i lead in
        let same : f.by ≡ i = one_leader inv f.by i f.adopted.it l.it f.adopted.mem l.mem (f.adopted.is.0 ∙ (c.is.0 ∙ (eq ∙ sym l.is.0))) in
        let whole : In f.whole.it (w.nodes i).accepts = subst (λ t. In f.whole.it (w.nodes t).accepts) same f.whole.mem in
        front_trans c.is.1 (front_trans f.whole.is.1 (((inv.local i).last.at f.whole.it whole).1 (f.whole.is.0 ∙ (c.is.0 ∙ eq))))

-- the reported log begins with each durable log
pub reported_has : {E : Type 0} {n : ℕ} {w : World E} → Inv n w → (r : ℕ) → IsReported n w r → (g : ℕ) (d : List E) → DurableIn n w g d → Front d (w.nodes r).log
reported_has {E} {n} {w} inv r top g d dur =
    let s = some_in dur in
    go s.0 s.3 (top s.0 s.1 s.2)
  where
    level : (k : ℕ) (c : Claim E) → In c (w.nodes k).accepts → c.gen ≡ g → Front d c.log → (w.nodes k).accepted ≡ (w.nodes r).accepted → length (w.nodes k).log ≤ length (w.nodes r).log → (g < (w.nodes r).accepted) ⊎ (g ≡ (w.nodes r).accepted) → Front d (w.nodes r).log
    level k c hc cg p eq len (inl lt) = below_accepted inv g d dur r lt
    level k c hc cg p eq len (inr same) =
        let f = (inv.refs k).follows.at c hc in
        let fg : f.adopted.it.gen ≡ c.gen = f.adopted.is.0 in
        let a = holds inv k f.by f.adopted.it f.adopted.mem (omega arith) in
        let b = holds inv r f.by f.adopted.it f.adopted.mem (omega arith) in
        let p' = front_trans p (((inv.local k).last.at c hc).1 (cg ∙ (same ∙ sym eq))) in
        both (comparable inv k r a.it b.it a.mem b.mem (a.is.0 ∙ (eq ∙ sym b.is.0))) a.is.1 b.is.1 p'
      where
        both : {x y : List E} → Front x y ⊎ Front y x → x ≡ (w.nodes k).log → y ≡ (w.nodes r).log → Front d (w.nodes k).log → Front d (w.nodes r).log
        both {x} {y} (inl q) e f p = front_trans p (subst (λ t. Front t (w.nodes r).log) e (subst (λ t. Front x t) f q))
        both {x} {y} (inr q) e f p = subst (λ t. Front d t) (sym (front_same (subst (λ t. Front t (w.nodes k).log) f (subst (λ t. Front y t) e q)) len)) p

    go : (k : ℕ) → Has (λ c. (c.gen ≡ g) × Front d c.log) (w.nodes k).accepts → Below (w.nodes k).accepted (length (w.nodes k).log) (w.nodes r).accepted (length (w.nodes r).log) → Front d (w.nodes r).log
    go k c (inl lt) =
        let a : c.it.gen ≤ (w.nodes k).accepted = ((inv.local k).last.at c.it c.mem).0 in
        let cg : c.it.gen ≡ g = c.is.0 in
        below_accepted inv g d dur r (omega arith)
    go k c (inr eq) =
        let a : c.it.gen ≤ (w.nodes k).accepted = ((inv.local k).last.at c.it c.mem).0 in
        let cg : c.it.gen ≡ g = c.is.0 in
        let e : (w.nodes k).accepted ≡ (w.nodes r).accepted = eq.0 in
        level k c.it c.mem c.is.0 c.is.1 eq.0 eq.1 (lt_or_eq g (w.nodes r).accepted (omega arith))

-- of two durable logs one is durable and begins with both
pub longer : {E : Type 0} {n : ℕ} {w : World E} → Inv n w → (d e : List E) → (g : ℕ) × DurableIn n w g d → (g : ℕ) × DurableIn n w g e → (f : List E) × ((g : ℕ) × DurableIn n w g f) × Front d f × Front e f
longer inv d e p q = elim (durable_either inv p.0 q.0 d e p.1 q.1) [
  | inl h ↦ (e, q, h, front_refl e)
  | inr h ↦ (d, p, front_refl d, h)
]

-- a front of what was accepted in g, which a 'Durable' of g reaches, is durable in g
pub committed_by : {E : Type 0} {n : ℕ} {w : World E} → Inv n w → (g m j : ℕ) (f : List E) (c d : Claim E) → In c (w.nodes m).accepts → c.gen ≡ g → Front f c.log → In d (w.nodes j).durables → d.gen ≡ g → length f ≤ length d.log → DurableIn n w g f
committed_by {E} {n} {w} inv g m j f c d hc cg p hd dg len = majority_weaker (λ k x. record { it = x.it; mem = x.mem; is = (x.is.0 ∙ dg, one k x.it x.mem (x.is.0 ∙ dg) x.is.1) }) ((inv.refs j).durables.at d hd)
  where
    one : (k : ℕ) (x : Claim E) → In x (w.nodes k).accepts → x.gen ≡ g → Front d.log x.log → Front f x.log
    one k x hx xg q = go (comparable inv m k c x hc hx (cg ∙ sym xg))
      where
        go : Front c.log x.log ⊎ Front x.log c.log → Front f x.log
        go (inl r) = front_trans p r
        go (inr r) = let a = front_length q in front_shorter p r (omega arith)

-- who led a generation with a durable log: its adopted log is durable there too
pub first_of : {E : Type 0} {n : ℕ} {w : World E} → Inv n w → (g : ℕ) (d : List E) → DurableIn n w g d → (m : ℕ) × Has (λ l. (l.gen ≡ g) × DurableIn n w g l.log) (w.nodes m).leads
first_of {E} {n} {w} inv g d dur =
    let s = some_of dur in
    let c = s.1 in
    let f = (inv.refs s.0).follows.at c.it c.mem in
    (f.by, record { it = f.adopted.it; mem = f.adopted.mem; is = (f.adopted.is.0 ∙ c.is.0, majority_weaker (λ k x. record { it = x.it; mem = x.mem; is = (x.is.0, one f.by f.adopted.it f.adopted.mem (f.adopted.is.0 ∙ c.is.0) k x.it x.mem x.is.0) }) dur) })
  where
    one : (m : ℕ) (l : Claim E) → In l (w.nodes m).leads → l.gen ≡ g → (k : ℕ) (x : Claim E) → In x (w.nodes k).accepts → x.gen ≡ g → Front l.log x.log
    one m l hl lg k x hx xg =
        let f = (inv.refs k).follows.at x hx in
        let same : f.by ≡ m = one_leader inv f.by m f.adopted.it l f.adopted.mem hl (f.adopted.is.0 ∙ (xg ∙ sym lg)) in
        let hf : In f.adopted.it (w.nodes m).leads = subst (λ t. In f.adopted.it (w.nodes t).leads) same f.adopted.mem in
        subst (λ t. Front t x.log) (one_log inv m f.adopted.it l hf hl (f.adopted.is.0 ∙ (xg ∙ sym lg))) f.adopted.is.1

-- the first master's log isn't longer than what a later leader adopted, if any log is durable in a generation not above that leader's
pub base_within : {E : Type 0} {n : ℕ} {w : World E} → Inv n w → (m : ℕ) (a : Claim E) → IsFirstMaster n w m a → (k : ℕ) (l : Claim E) → In l (w.nodes k).leads → (h : ℕ) (d : List E) → DurableIn n w h d → h ≤ l.gen → length a.log ≤ length l.log
base_within {E} {n} {w} inv m a first k l hl h d dur le =
    let f = first_of inv h d dur in
    let x = f.1 in
    let xg : x.it.gen ≡ h = x.is.0 in
    let low : a.gen ≤ x.it.gen = first.least f.0 x.it x.mem (subst (λ t. DurableIn n w t x.it.log) (sym x.is.0) x.is.1) in
    go (lt_or_eq a.gen l.gen (omega arith))
  where
    go : (a.gen < l.gen) ⊎ (a.gen ≡ l.gen) → length a.log ≤ length l.log
    go (inl lt) = front_length (adopts inv a.gen a.log first.durable l.gen k l hl (omega arith) lt)
    go (inr eq) =
        let same : m ≡ k = one_leader inv m k a l first.mem hl eq in
        let ha : In a (w.nodes k).leads = subst (λ t. In a (w.nodes t).leads) same first.mem in
        let e = ap (λ t. length t) (one_log inv k a l ha hl eq) in
        let e' : length a.log ≡ length l.log = e in
        omega arith
