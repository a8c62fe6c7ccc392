-- What holds of three nodes, and of each node whose number is not known.
use Rattle.std.proofs.Common.{ℕ, ◌<◌, ◌≤◌, arith}
use Rattle.std.specs.Prelude.{◌==◌, Bool, true, false, cond, zero, suc}
use Rattle.cluster_consensus.specs.Events.{NodeEvent, change}
use Rattle.cluster_consensus.specs.Facts.{Own, World}
use Rattle.cluster_consensus.specs.Histories.{happens}
use Rattle.cluster_requests.specs.KeptEntries.{KeptEntry}

pub of_three : (P : ℕ → Type 0) → P 1 → P 2 → P 3 → (k : ℕ) → 0 < k → k ≤ 3 → P k
of_three P a b c zero lo hi = absurd (omega arith)
of_three P a b c (suc zero) lo hi = a
of_three P a b c (suc (suc zero)) lo hi = b
of_three P a b c (suc (suc (suc zero))) lo hi = c
of_three P a b c (suc (suc (suc (suc k)))) lo hi = absurd (omega arith)

-- what each node has, it has behind an event that leaves it to its actor
pub keeps : (P : Own KeptEntry → Type 0) (w : World KeptEntry) (i : ℕ) (e : NodeEvent KeptEntry) → P (change i (w.nodes i) e) → ((k : ℕ) → P (w.nodes k)) → (k : ℕ) → P ((happens w i e).nodes k)
keeps P w i e own old k = go (k == i)
  where
    go : (b : Bool) → P (cond b (change i (w.nodes i) e) (w.nodes k))
    go true = own
    go false = old k
