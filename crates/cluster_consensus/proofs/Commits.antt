-- What is committed is durable.
use Rattle.std.proofs.Common.{◌≡◌, ℕ, ◌≤◌, List, length, arith, sym, ◌∙◌}
use mathlib.Core.Logic.{◌⊎◌, inl, inr}
use Rattle.cluster_consensus.proofs.Generations.{comparable}
use Rattle.cluster_consensus.proofs.Invariant.{Inv}
use Rattle.cluster_consensus.specs.Committed.{IsCommitted}
use Rattle.cluster_consensus.specs.Durable.{DurableIn}
use Rattle.cluster_consensus.specs.Facts.{Claim, World}
use Rattle.core_lists.proofs.Fronts.{front_trans, front_length, front_shorter}
use Rattle.core_lists.proofs.Majorities.{majority_weaker}
use Rattle.core_lists.specs.Fronts.{Front}
use Rattle.core_lists.specs.Lists.{In, Has}

pub committed : {E : Type 0} {n : ℕ} {w : World E} → Inv n w → (g : ℕ) (f : List E) → IsCommitted w g f → DurableIn n w g f
committed {E} {n} {w} inv g f can = majority_weaker (λ k c. record { it = c.it; mem = c.mem; is = (c.is.0 ∙ d.is.0, one k c.it c.mem (c.is.0 ∙ d.is.0) c.is.1) }) ((inv.refs can.1).durables.at d.it d.mem)
  where
    s : Has (λ s. (s.gen ≡ g) × Front f s.log) (w.nodes can.0).ships
    s = can.2

    d : Has (λ d. (d.gen ≡ g) × (length f ≤ length d.log)) (w.nodes can.1).durables
    d = can.3

    one : (k : ℕ) (c : Claim E) → In c (w.nodes k).accepts → c.gen ≡ g → Front d.it.log c.log → Front f c.log
    one k c hc cg p = go (comparable inv can.0 k s.it c ((inv.local can.0).ships.at s.it s.mem).1 hc (s.is.0 ∙ sym cg))
      where
        go : Front s.it.log c.log ⊎ Front c.log s.it.log → Front f c.log
        go (inl q) = front_trans s.is.1 q
        go (inr q) = let a = front_length p in let b : length f ≤ length d.it.log = d.is.1 in front_shorter s.is.1 q (omega arith)
