-- The node whose log is reported.
use Rattle.std.specs.Prelude.{ℕ, ◌<◌, ◌≤◌, length}
use Rattle.cluster_consensus.specs.Enabled.{Below}
use Rattle.cluster_consensus.specs.Facts.{World}

-- no node's pair of accepted generation and length is greater than this one's
abbrev pub IsReported : {E : Type 0} → ℕ → World E → ℕ → Type 0
IsReported n w r = (k : ℕ) → 0 < k → k ≤ n → Below (w.nodes k).accepted (length (w.nodes k).log) (w.nodes r).accepted (length (w.nodes r).log)
