-- When an outcome may say that an entry stands at a position.
use Rattle.std.specs.Prelude.{ℕ, ◌≡◌, ◌≤◌, List, length}
use Rattle.cluster_consensus.specs.Facts.{World}
use Rattle.core_lists.specs.Fronts.{Front}
use Rattle.core_lists.specs.Lists.{Has}

-- a front of what was shipped in g, which a 'Durable' of g reaches
abbrev pub IsCommitted : {E : Type 0} → World E → ℕ → List E → Type 0
IsCommitted w g f = (m j : ℕ) × Has (λ s. (s.gen ≡ g) × Front f s.log) (w.nodes m).ships × Has (λ d. (d.gen ≡ g) × (length f ≤ length d.log)) (w.nodes j).durables
