-- Histories: what they leave, and which are legal.
use Rattle.std.specs.Prelude.{ℕ, ◌==◌, cond, List, [], ◌∷◌}
use Rattle.cluster_consensus.specs.Enabled.{Enabled}
use Rattle.cluster_consensus.specs.Events.{NodeEvent, change}
use Rattle.cluster_consensus.specs.Events.NodeEvent.{Admits, Asks}
use Rattle.cluster_consensus.specs.Facts.{Admit, World, blank}

abbrev pub asked : {E : Type 0} → World E → NodeEvent E → List ℕ
asked w (Asks t) = t ∷ w.asks
asked w _ = w.asks

abbrev pub admitted : {E : Type 0} → World E → NodeEvent E → List Admit
admitted w (Admits k p a) = record { node = k; promised = p; accepted = a } ∷ w.admits
admitted w _ = w.admits

abbrev pub happens : {E : Type 0} → World E → ℕ → NodeEvent E → World E
happens w i e = record { nodes = λ k. cond (k == i) (change i (w.nodes i) e) (w.nodes k); admits = admitted w e; asks = asked w e }

-- a history has its newest event first
abbrev pub after : {E : Type 0} → List (ℕ × NodeEvent E) → World E
after [] = record { nodes = λ k. blank; admits = []; asks = [] }
after (x ∷ h) = happens (after h) x.0 x.1

abbrev pub Legal : {E : Type 0} → ℕ → List (ℕ × NodeEvent E) → Type 0
Legal n [] = Unit {0}
Legal n (x ∷ h) = Enabled n (after h) x.0 ((after h).nodes x.0) x.1 × Legal n h
