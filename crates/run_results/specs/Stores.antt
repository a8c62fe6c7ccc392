-- What a run leaves of the stores of its nodes: each node first comes up with what its store held, and at the end its
-- store holds what the node's part has, where it is up; where it is down, something with which it may come up; and
-- where it never came up, what it held.
use Rattle.std.specs.Prelude.{ℕ, ◌≡◌, ◌⊎◌, ◌+◌, ◌==◌, ◌≤◌, cond, true, false, List, [], ◌∷◌, ◌++◌, length, map, Option, Some, None, IfSome, slice_get}
use Rattle.cdb_outside.specs.Faults.{last_count}
use Rattle.cluster_consensus.specs.Facts.{Own}
use Rattle.cluster_events.specs.Parts.{field}
use Rattle.cluster_events.specs.Settings.{Setting}
use Rattle.cluster_requests.specs.KeptEntries.{KeptEntry, plain}
use Rattle.cluster_steps.specs.Guards.{AreLegalSteps}
use Rattle.cluster_steps.specs.Named.{steps, world}
use Rattle.cluster_steps.specs.declared.events.Event.{Event}
use Rattle.cluster_steps.specs.declared.events.Event.TheVariants as event
use Rattle.history_base.specs.Sizes.{lengths_with}
use Rattle.kept_log.specs.Kept.{Kept, StandForAny, StandsStill, kept}
use Rattle.node_state.specs.Restarts.{MayWakeAny}
use Rattle.store_log.specs.Keeps.{Stored}

-- with what an event has a node come up
abbrev pub up_of : Event → Option Kept
up_of (event.Up how promised accepted entries) = Some (kept promised accepted entries.value)
up_of _ = None

abbrev pub or_before : Option Kept → Option Kept → Option Kept
or_before (Some earlier) later = Some earlier
or_before None later = later

-- with what a node came up for the first time
abbrev pub first_up : ℕ → List (ℕ × Event) → Option Kept
first_up k [] = None
first_up k (x ∷ h) = or_before (first_up k h) (cond (k == x.0) (up_of x.1) None)

-- how often its store failed
abbrev pub fault_of : Event → ℕ
fault_of (event.Down fault) = cond fault 1 0
fault_of _ = 0

abbrev pub faults_of : ℕ → List (ℕ × Event) → ℕ
faults_of k [] = 0
faults_of k (x ∷ h) = cond (k == x.0) (fault_of x.1) 0 + faults_of k h

-- the same by its own steps, the oldest first
abbrev pub first_in : List (ℕ × Event) → Option Kept
first_in [] = None
first_in (x ∷ xs) = or_before (up_of x.1) (first_in xs)

abbrev pub faults_in : List (ℕ × Event) → ℕ
faults_in [] = 0
faults_in (x ∷ xs) = fault_of x.1 + faults_in xs

-- with how long a log it came up each time
abbrev pub noted_in : List (ℕ × Event) → List ℕ
noted_in [] = []
noted_in (x ∷ xs) = lengths_with [] x.1 ++ noted_in xs

-- what the store of a node holds at the end
abbrev pub HoldsPart : Setting → List (ℕ × Event) → ℕ → ℕ → Stored → Stored → Own KeptEntry → Type 0
HoldsPart G h k cluster old new o =
    (first_up k h ≡ None → StandsStill k cluster old.synced new.synced)
    × (o.up ≡ true → ∥ StandForAny k cluster new.synced (kept o.promised o.accepted (map plain o.log) ∷ []) ∥₁)
    × (o.was_up ≡ true → o.up ≡ false → (ks : List Kept) × ∥ StandForAny k cluster new.synced ks ∥₁ × MayWakeAny G (field (steps G h)) k ks)

pub record IsNodeOf (G : Setting) (h : List (ℕ × Event)) (k cluster : ℕ) (old new : Stored) : Type 0 where
  pub read : IfSome (first_up k h) (λ x. ∥ StandForAny k cluster old.synced (x ∷ []) ∥₁)
  pub holds : HoldsPart G h k cluster old new ((world G h).nodes k)
  pub faults : (old.faults + faults_of k h ≤ new.faults) ⊎ (last_count ≤ new.faults)
  pub settled : new.pending ≡ []

-- the nodes from 1 on: each has a store, in its place, before and after
pub record AreStoresOf (G : Setting) (h : List (ℕ × Event)) (cluster : ℕ) (old new : List Stored) : Type 0 where
  pub legal : AreLegalSteps G h
  pub size : length old ≡ G.nodes
  pub count : length new ≡ length old
  pub each : (k : ℕ) (o n : Stored) → slice_get old k ≡ Some o → slice_get new k ≡ Some n → IsNodeOf G h (k + 1) cluster o n
