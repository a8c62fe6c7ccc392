-- When a begin may be answered, and which positions were answered.
use Rattle.std.specs.Prelude.{ℕ, ◌≡◌, ◌≤◌, length}
use mathlib.Core.Logic.{◌⊎◌}
use Rattle.cluster_consensus.specs.Facts.{World}
use Rattle.core_lists.specs.Lists.{Has}
use Rattle.core_lists.specs.Majorities.{Majority}

-- a begin may be answered by this position and generation
abbrev pub CanBegin : {E : Type 0} → ℕ → World E → ℕ → ℕ → ℕ → Type 0
CanBegin n w t b g = (m : ℕ) × Has (λ x. (x.ask ≡ t) × (x.gen ≡ g) × (x.durable ≡ b)) (w.nodes m).pings × Majority n (λ k. (k ≡ m) ⊎ Has (λ x. (x.ask ≡ t) × (x.gen ≡ g)) (w.nodes k).pongs)

-- a position was answered in this generation: by an outcome, or by a begin
abbrev pub IsPositionAnswered : {E : Type 0} → World E → ℕ → ℕ → Type 0
IsPositionAnswered w p g = ((m : ℕ) × Has (λ c. (c.gen ≡ g) × (p ≤ length c.log)) (w.nodes m).durables) ⊎ ((m : ℕ) × Has (λ x. (x.gen ≡ g) × (p ≤ x.durable)) (w.nodes m).pings)
