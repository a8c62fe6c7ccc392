-- What the stores of a run held before it, and which of them is a best one.
use Rattle.std.specs.Prelude.{ℕ, ◌≡◌, ◌⊎◌, ◌+◌, List, [], ◌∷◌, length, Some, slice_get}
use Rattle.cluster_consensus.specs.Enabled.{Below}
use Rattle.core_lists.specs.Majorities.{Majority}
use Rattle.kept_log.specs.Kept.{StandForAny, kept}
use Rattle.phys_log.specs.declared.entries.Entry.{Entry}
use Rattle.phys_log.specs.declared.entries.Entry.TheVariants as entry
use Rattle.store_log.specs.Keeps.{Stored}

-- the store of a node held this log, accepted in this generation; the store of node 1 is the first one
pub record HeldBefore (cluster : ℕ) (old : List Stored) (node accepted : ℕ) (entries : List Entry) : Type 0 where
  pub place : ℕ
  pub behind : node ≡ place + 1
  pub store : Stored
  pub is : slice_get old place ≡ Some store
  pub promised : ℕ
  pub stood : ∥ StandForAny node cluster store.synced (kept promised accepted entries ∷ []) ∥₁

-- a majority of the stores had no greater pair of accepted generation and length
abbrev pub IsBestBefore : ℕ → ℕ → List Stored → ℕ → List Entry → Type 0
IsBestBefore n cluster old accepted entries =
    Majority n (λ node. (a : ℕ) × (es : List Entry) × HeldBefore cluster old node a es × Below a (length es) accepted (length entries))

-- the setup, and no other entry
abbrev pub IsSetup : List Entry → Type 0
IsSetup (entry.Setup generation schema records ∷ []) = Unit {0}
IsSetup _ = ⊥

-- a log is that of a store, or the setup alone where the store was empty
pub record IsOfStore (cluster : ℕ) (old : List Stored) (log : List Entry) : Type 0 where
  pub node : ℕ
  pub accepted : ℕ
  pub entries : List Entry
  pub held : HeldBefore cluster old node accepted entries
  pub is : (log ≡ entries) ⊎ ((entries ≡ []) × IsSetup log)

-- and of a best one
pub record IsOfBestStore (n cluster : ℕ) (old : List Stored) (log : List Entry) : Type 0 where
  pub of_store : IsOfStore cluster old log
  pub best : IsBestBefore n cluster old of_store.accepted of_store.entries
