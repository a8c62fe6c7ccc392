-- The operator while it admits stores.
use Rattle.std.specs.Prelude.{ℕ, ◌≡◌, ◌+◌, ◌<◌, List, [], ◌∷◌, ◌++◌, None}
use Rattle.actor_trace.specs.Actors.{Knows}
use Rattle.actor_trace.specs.Lists.{Begins}
use Rattle.cluster_consensus.specs.Facts.{Admit}
use Rattle.cluster_events.specs.Arms.{last_fired}
use Rattle.cluster_events.specs.Settings.{Setting}
use Rattle.cluster_steps.specs.Guards.{AreLegalSteps}
use Rattle.cluster_steps.specs.Named.{steps, world}
use Rattle.cluster_steps.specs.declared.events.Event.{Event}
use Rattle.cluster_steps.specs.declared.events.Event.TheVariants as event
use Rattle.core_lists.specs.Lists.{In}
use Rattle.node_openings.specs.declared.found.StoreFound.{StoreFound}
use Rattle.node_openings.specs.declared.found.StoreFound.TheVariants as store
use Rattle.node_state.specs.Nodes.{events_of}

-- what the store of a node promised and accepted
abbrev pub admission : ℕ → ℕ → ℕ → Admit
admission node promised accepted = record { node = node; promised = promised; accepted = accepted }

-- it admitted only some of these, of nodes below a number, and let no arm fire
pub record AdmitsBelow (G : Setting) (all : List Admit) (k : ℕ) (o : Knows Event) : Type 0 where
  pub operator : o.number ≡ 0
  pub legal : AreLegalSteps G o.seen
  pub some : (x : Admit) → In x (world G o.seen).admits → In x all
  pub below : (x : Admit) → In x (world G o.seen).admits → x.node < k
  pub unarmed : last_fired 0 (steps G o.seen) ≡ None

-- it admitted this by one step, and let no arm fire
pub record AdmitsOne (G : Setting) (node promised accepted : ℕ) (old new : Knows Event) : Type 0 where
  pub added : (world G new.seen).admits ≡ admission node promised accepted ∷ (world G old.seen).admits
  pub did : events_of new.made ≡ events_of old.made ++ event.Admit node promised accepted ∷ []
  pub number : new.number ≡ 0
  pub unarmed : last_fired 0 (steps G new.seen) ≡ None
  pub legal : AreLegalSteps G new.seen
  pub room : new.room + 1 ≡ old.room
  pub more : Begins old.seen new.seen

-- what it does at the turn of a node, and at those of all nodes from a number on: it admits each store whose log is sound
abbrev pub deeds_at : ℕ → StoreFound → List Event
deeds_at k store.Failed = []
deeds_at k (store.Bad at) = []
deeds_at k store.NotSound = []
deeds_at k (store.Whole r) = event.Admit k r.promised r.accepted ∷ []

abbrev pub deeds_from : ℕ → List StoreFound → List Event
deeds_from k [] = []
deeds_from k (s ∷ ss) = deeds_at k s ++ deeds_from (k + 1) ss
