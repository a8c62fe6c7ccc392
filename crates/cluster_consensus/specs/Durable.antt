-- When a log is durable.
use Rattle.std.specs.Prelude.{ℕ, ◌≡◌, List}
use Rattle.cluster_consensus.specs.Events.{NodeEvent}
use Rattle.cluster_consensus.specs.Facts.{World}
use Rattle.cluster_consensus.specs.Histories.{after}
use Rattle.core_lists.specs.Fronts.{Front}
use Rattle.core_lists.specs.Lists.{Has}
use Rattle.core_lists.specs.Majorities.{Majority}

-- in this generation a majority accepted this log or a longer one
abbrev pub DurableIn : {E : Type 0} → ℕ → World E → ℕ → List E → Type 0
DurableIn n w g d = Majority n (λ k. Has (λ c. (c.gen ≡ g) × Front d c.log) (w.nodes k).accepts)

abbrev pub DurableAt : {E : Type 0} → ℕ → List (ℕ × NodeEvent E) → List E → Type 0
DurableAt n h d = (g : ℕ) × DurableIn n (after h) g d
