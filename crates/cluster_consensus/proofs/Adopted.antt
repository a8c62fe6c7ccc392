-- Where the log of a leader comes from.
use Rattle.std.proofs.Common.{◌≡◌, ℕ, ◌<◌, ◌≤◌, List, length, arith, ap, sym, subst, ◌∙◌}
use mathlib.Core.Logic.{◌⊎◌, inl, inr}
use Rattle.cluster_consensus.proofs.Generations.{real, comparable}
use Rattle.cluster_consensus.proofs.Invariant.{Inv}
use Rattle.cluster_consensus.specs.Durable.{DurableIn}
use Rattle.cluster_consensus.specs.Enabled.{IsGranted, IsShipped}
use Rattle.cluster_consensus.specs.Facts.{Claim, World}
use Rattle.core_lists.proofs.Fronts.{front_same}
use Rattle.core_lists.proofs.Majorities.{meet}
use Rattle.core_lists.specs.Fronts.{Front}
use Rattle.core_lists.specs.Lists.{In, Has}

-- a log of one generation is determined by its length
pub same_length : {E : Type 0} {n : ℕ} {w : World E} → Inv n w → (g : ℕ) (a b : List E) → IsShipped w g a → IsShipped w g b → length a ≡ length b → a ≡ b
same_length {E} {n} {w} inv g a b x y e = go (comparable inv x.0 y.0 x.1.it y.1.it ((inv.local x.0).ships.at x.1.it x.1.mem).1 ((inv.local y.0).ships.at y.1.it y.1.mem).1 (x.1.is.0 ∙ sym y.1.is.0))
  where
    go : Front x.1.it.log y.1.it.log ⊎ Front y.1.it.log x.1.it.log → a ≡ b
    go (inl p) = front_same (subst (λ t. Front t b) x.1.is.1 (subst (λ t. Front x.1.it.log t) y.1.is.1 p)) (omega arith)
    go (inr p) = sym (front_same (subst (λ t. Front t a) y.1.is.1 (subst (λ t. Front y.1.it.log t) x.1.is.1 p)) (omega arith))

-- the log that a leader adopted was accepted in a generation at or above each earlier one in which a log is durable
pub adopted_from : {E : Type 0} {n : ℕ} {w : World E} → Inv n w → (g : ℕ) (d : List E) → DurableIn n w g d → (m : ℕ) (l : Claim E) → In l (w.nodes m).leads → g < l.gen
    → Has (λ c. (g ≤ c.gen) × (c.gen < l.gen) × (c.log ≡ l.log)) (w.nodes m).accepts
adopted_from {E} {n} {w} inv g d dur m l hl lt =
    let r = meet dur ((inv.refs m).led.at l hl) in
    go r.0 r.1 r.2 ((inv.local m).leads.at l hl)
  where
    go : (k : ℕ) → Has (λ c. (c.gen ≡ g) × Front d c.log) (w.nodes k).accepts → IsGranted w l.gen m k → Has (λ v. (v.gen ≡ l.gen) × (v.log ≡ l.log)) (w.nodes m).votes → Has (λ c. (g ≤ c.gen) × (c.gen < l.gen) × (c.log ≡ l.log)) (w.nodes m).accepts
    go k c x v =
        let gok = (inv.local k).grants.at x.it x.mem in
        let u = (inv.refs k).granted.at x.it x.mem in
        let u' : In u.it (w.nodes m).votes = subst (λ t. In u.it (w.nodes t).votes) x.is.1 u.mem in
        let xg : x.it.gen ≡ l.gen = x.is.0 in
        let cg : c.it.gen ≡ g = c.is.0 in
        let vg : v.it.gen ≡ l.gen = v.is.0 in
        let ug : u.it.gen ≡ x.it.gen = u.is.0 in
        let same : u.it ≡ v.it = (inv.local m).vote_once.same u.it v.it u' v.mem (omega arith) in
        let vok = (inv.local m).votes.at u.it u' in
        let va : u.it.accepted < u.it.gen = vok.above in
        let cl : c.it.gen ≤ x.it.accepted = (gok.closed.at c.it c.mem (omega arith)).0 in
        let up : x.it.accepted ≤ u.it.accepted = below u.is.1 in
        let f = (inv.refs k).follows.at c.it c.mem in
        let fg : f.adopted.it.gen ≡ c.it.gen = f.adopted.is.0 in
        let e = real inv f.by m f.adopted.it u.it.accepted u.it.log f.adopted.mem (omega arith) vok.held in
        let eg : e.it.gen ≡ u.it.accepted = e.is.0 in
        record { it = e.it; mem = e.mem; is = (omega arith, omega arith, e.is.1 ∙ (ap (λ t. t.log) same ∙ v.is.1)) }
      where
        below : {a n b m : ℕ} → (a < b) ⊎ ((a ≡ b) × (n ≤ m)) → a ≤ b
        below (inl h) = omega arith
        below {a} {n} {b} {m} (inr h) = let e : a ≡ b = h.0 in omega arith
