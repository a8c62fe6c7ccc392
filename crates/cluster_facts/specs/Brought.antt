-- The log with which a node came up first.
use Rattle.std.specs.Prelude.{ℕ, List}
use Rattle.cluster_consensus.specs.Events.{NodeEvent}
use Rattle.cluster_consensus.specs.Events.NodeEvent.{Boot}
use Rattle.core_lists.specs.Lists.{In}

abbrev pub IsBrought : {E : Type 0} → List (ℕ × NodeEvent E) → ℕ → ℕ → List E → Type 0
IsBrought h k a l = (p : ℕ) × In (k, Boot p a l) h
