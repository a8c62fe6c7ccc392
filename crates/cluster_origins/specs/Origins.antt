-- Where a log comes from that is adopted before anything else is durable: from a store, with which a node came up for
-- the first time; or it is the setup alone, where that store was empty.
use Rattle.std.specs.Prelude.{ℕ, ◌≡◌, ◌⊎◌, List, [], ◌∷◌, length}
use Rattle.cluster_consensus.specs.Enabled.{Below}
use Rattle.cluster_consensus.specs.Events.NodeEvent.{Boot}
use Rattle.cluster_events.specs.Parts.{ActorEvent}
use Rattle.cluster_events.specs.Parts.ActorEvent.{Node}
use Rattle.cluster_requests.specs.KeptEntries.{KeptEntry}
use Rattle.cluster_requests.specs.KeptEntries.KeptEntry.{SetupKept}
use Rattle.core_lists.specs.Lists.{In}
use Rattle.core_lists.specs.Majorities.{Majority}

-- a node came up for the first time with a store that had this log, accepted in this generation
abbrev pub HadAtEntry : List (ℕ × ActorEvent) → ℕ → ℕ → List KeptEntry → Type 0
HadAtEntry h k a l = (p : ℕ) × In (k, Node (Boot p a l)) h

-- a majority of stores had no greater pair of accepted generation and length
abbrev pub IsBestAtEntry : ℕ → List (ℕ × ActorEvent) → ℕ → List KeptEntry → Type 0
IsBestAtEntry n h a l = Majority n (λ j. (b : ℕ) × (k : List KeptEntry) × HadAtEntry h j b k × Below b (length k) a (length l))

-- the setup, and no other entry
abbrev pub IsSetupAlone : List KeptEntry → Type 0
IsSetupAlone (SetupKept generation schema records reached ∷ []) = Unit {0}
IsSetupAlone _ = ⊥

-- a log is that of a store, or the setup alone where the store was empty
pub record IsFrom (h : List (ℕ × ActorEvent)) (log : List KeptEntry) : Type 0 where
  pub node : ℕ
  pub accepted : ℕ
  pub store : List KeptEntry
  pub had : HadAtEntry h node accepted store
  pub is : (log ≡ store) ⊎ ((store ≡ []) × IsSetupAlone log)

-- and of a best one
pub record IsFromBest (n : ℕ) (h : List (ℕ × ActorEvent)) (log : List KeptEntry) : Type 0 where
  pub from : IsFrom h log
  pub best : IsBestAtEntry n h from.accepted from.store
