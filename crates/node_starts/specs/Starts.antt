-- What becomes of each node at the start of all.
use Rattle.std.specs.Prelude.{ℕ, ◌≡◌, ◌⊎◌, ◌≤◌, true, List, [], ◌∷◌}
use Rattle.actor_trace.specs.Actors.{Knows}
use Rattle.actor_trace.specs.Lists.{Begins}
use Rattle.actor_trace.specs.Steps.{Rests}
use Rattle.cluster_consensus.specs.Enabled.{Fit}
use Rattle.cluster_consensus.specs.Facts.{Admit}
use Rattle.cluster_events.specs.Settings.{Setting}
use Rattle.cluster_steps.specs.Guards.{AreLegalSteps, IsPlan}
use Rattle.cluster_steps.specs.declared.events.Event.{Event}
use Rattle.cluster_steps.specs.declared.events.Woken.TheVariants as woken
use Rattle.kept_log.specs.Kept.{OverStore, kept_by}
use Rattle.core_lists.specs.Lists.{In}
use Rattle.node_state.specs.Calls.{Falls}
use Rattle.node_state.specs.Restarts.{Wakes}
use Rattle.node_state.specs.Stores.{HoldsStill, IsFoundIn, OpensStore, Stored, held_of}
use Rattle.node_state.specs.declared.steps.Started.TheVariants as started
use Rattle.node_openings.specs.declared.found.ReadLog.{ReadLog}
use Rattle.node_openings.specs.declared.found.StoreFound.{StoreFound}
use Rattle.node_openings.specs.declared.found.StoreFound.TheVariants as store
use Rattle.node_starts.specs.Admits.{AdmitsBelow, admission}
use Rattle.node_starts.specs.News.{IsNew, IsReady}

-- it came up with what its store held, for the first time, and has room for a stop; no call of the store failed
pub record ComesUp (r : ReadLog) (old new : Stored) : Type 0 where
  pub wakes : Wakes (woken.First r.rows) (kept_by new.over) (held_of old) (held_of new)
  pub room : 1 ≤ new.actor.room
  pub opened : OpensStore started.Up old.over new.over

-- its store failed: it goes down by that
pub record GoesDown (old new : Stored) : Type 0 where
  pub falls : Falls true (held_of old) (held_of new)
  pub failed : OpensStore started.Fault old.over new.over

-- a node whose store was found to be this: one that failed goes down by a fault; a sound one comes up, or its store fails there
abbrev pub StartsAs : StoreFound → Stored → Stored → Type 0
StartsAs store.Failed old new = Falls true (held_of old) (held_of new) × (new.over ≡ old.over)
StartsAs (store.Bad at) old new = ⊥
StartsAs store.NotSound old new = ⊥
StartsAs (store.Whole r) old new = ComesUp r old new ⊎ GoesDown old new

-- an actor did nothing, and may know more
pub record LearnsMore (G : Setting) (old new : Knows Event) : Type 0 where
  pub number : new.number ≡ old.number
  pub made : new.made ≡ old.made
  pub room : new.room ≡ old.room
  pub rests : Rests old.number old.seen new.seen
  pub legal : AreLegalSteps G new.seen

-- what a store promised and accepted is among these, where its log is sound
abbrev pub IsAmong : ℕ → StoreFound → List Admit → Type 0
IsAmong k store.Failed all = Unit {0}
IsAmong k (store.Bad at) all = Unit {0}
IsAmong k store.NotSound all = Unit {0}
IsAmong k (store.Whole r) all = In (admission k r.promised r.accepted) all

-- a node has its turn: it did nothing, the operator admitted only nodes before it, and all stores fit
pub record HasTurn (G : Setting) (all : List Admit) (k : ℕ) (s : StoreFound) (o : Knows Event) (n : Stored) : Type 0 where
  pub plan : IsPlan G
  pub fit : Fit G.nodes all
  pub below : AdmitsBelow G all k o
  pub among : IsAmong k s all
  pub new : IsNew k n
  pub ready : IsReady s n.over

pub record CanStart (G : Setting) (s : StoreFound) (o : Knows Event) (n : Stored) : Type 0 where
  pub all : List Admit
  pub turn : HasTurn G all n.vote.node s o n

-- so each of them, and all that they know is known
pub data AreStarted (seen : List (ℕ × Event)) : List StoreFound → List Stored → List Stored → Type 0 where
  started_none : AreStarted seen [] [] []
  started_more : {s : StoreFound} {o n : Stored} {ss : List StoreFound} {os ns : List Stored} → StartsAs s o n → Begins n.actor.seen seen → AreStarted seen ss os ns → AreStarted seen (s ∷ ss) (o ∷ os) (n ∷ ns)

-- whatever a store held it holds, or its log was opened and has that
abbrev pub KeepsStore : OverStore → OverStore → Type 0
KeepsStore old new = HoldsStill old new ⊎ IsFoundIn old new

pub data AreKept : List Stored → List Stored → Type 0 where
  kept_none : AreKept [] []
  kept_more : {o n : Stored} {os ns : List Stored} → KeepsStore o.over n.over → AreKept os ns → AreKept (o ∷ os) (n ∷ ns)
