-- What a node did with its store so far, beside what that was before the run.
use Rattle.std.specs.Prelude.{ℕ, ◌≡◌, ◌⊎◌, ◌+◌, ◌≤◌, List, [], ◌∷◌, ◌++◌, Option, None, IfSome}
use Rattle.cdb_outside.specs.Faults.{Rose, last_count}
use Rattle.cluster_steps.specs.declared.events.Event.{Event}
use Rattle.history_base.specs.Sizes.{lengths_with}
use Rattle.kept_log.specs.Kept.{Kept, StandForAny, StandsStill}
use Rattle.node_state.specs.Nodes.{events_of}
use Rattle.node_state.specs.Stores.{Stored}
use Rattle.run_results.specs.Stores.{fault_of, or_before, up_of}

-- with what a node first comes up by some events, the oldest first
abbrev pub first_by : List Event → Option Kept
first_by [] = None
first_by (e ∷ es) = or_before (up_of e) (first_by es)

-- how many of them are falls by a fault
abbrev pub faults_by : List Event → ℕ
faults_by [] = 0
faults_by (e ∷ es) = fault_of e + faults_by es

-- with how long a log it comes up each time
abbrev pub noted_by : List Event → List ℕ
noted_by [] = []
noted_by (e ∷ es) = lengths_with [] e ++ noted_by es

-- the bytes of a node's store stand for what it came up with
abbrev pub IsReadOf : ℕ → ℕ → List ℕ → Option Kept → Type 0
IsReadOf node cluster bytes first = IfSome first (λ x. ∥ StandForAny node cluster bytes (x ∷ []) ∥₁)

-- a count of faults rose so often; beyond its last value it tells no more
abbrev pub HasRisen : ℕ → ℕ → ℕ → Type 0
HasRisen before by now = (before + by ≤ now) ⊎ (last_count ≤ now)

-- a node over its store, which had these bytes and this count of faults before the run
pub record IsNodeSoFar (cluster : ℕ) (bytes : List ℕ) (faults : ℕ) (n : Stored) : Type 0 where
  pub cluster_is : n.over.cluster ≡ cluster
  pub read : IsReadOf n.vote.node cluster bytes (first_by (events_of n.actor.made))
  pub still : first_by (events_of n.actor.made) ≡ None → StandsStill n.vote.node cluster bytes n.over.synced
  pub risen : HasRisen faults (faults_by (events_of n.actor.made)) n.over.faults

-- a call in which the store failed just where the node fell by a fault
abbrev pub Counts : ℕ → ℕ → ℕ → Type 0
Counts falls was now = ((falls ≡ 0) × (now ≡ was)) ⊎ ((falls ≡ 1) × Rose was now)

-- a call by which the node does not come up; the store of one that never was up stands for what it stood for
pub record IsCallOf (es : List Event) (old new : Stored) : Type 0 where
  pub node : new.vote.node ≡ old.vote.node
  pub cluster : new.over.cluster ≡ old.over.cluster
  pub no_up : first_by es ≡ None
  pub still : first_by (events_of old.actor.made) ≡ None → StandsStill old.vote.node old.over.cluster old.over.synced new.over.synced
  pub counts : Counts (faults_by es) old.over.faults new.over.faults
