-- The operator of a case: it admits the three stores, and orders starts and stops of nodes in the order of the case.
use Rattle.std.specs.Prelude.{ℕ, ◌≡◌, ◌+◌, ◌≤◌, Bool, true, false, List, [], ◌∷◌, None, Some, drop, slice_get}
use Rattle.actor_trace.specs.Actors.{Knows}
use Rattle.actor_trace.specs.Lists.{Begins}
use Rattle.cluster_events.specs.Arms.{last_fired}
use Rattle.cluster_events.specs.Operator.{Duty, duty}
use Rattle.cluster_events.specs.Settings.{Setting, lines_to_do}
use Rattle.cluster_steps.specs.Named.{steps, world}
use Rattle.cluster_steps.specs.declared.events.Event.{Event}
use Rattle.cluster_steps.specs.declared.events.Event.TheVariants as event
use Rattle.core_lists.specs.Lists.{Each}
use Rattle.script_form.specs.declared.scripts.Act.{Act}
use Rattle.node_cases.specs.Plans.{act_of, setting_of}
use Rattle.node_cases.specs.declared.orders.Order.{Order}

-- how many stores it admitted, the orders of the case, how many of them are done, and whether the next one is ordered
pub record Office : Type 0 where
  pub actor : Knows Event
  pub admitted : ℕ
  pub orders : List Order
  pub done : ℕ
  pub ordered : Bool

-- orders by their places in the script
abbrev pub placed : ℕ → List Order → List (ℕ × Act)
placed k [] = []
placed k (o ∷ os) = (k, act_of o) ∷ placed (k + 1) os

-- what the operator has to do by a history
abbrev pub duty_in : Setting → List (ℕ × Event) → Duty
duty_in G seen = duty (lines_to_do G) (steps G seen)

abbrev pub due_of : List (ℕ × Act) → Bool → Duty
due_of left ordered = record { left = left; ordered = ordered }

abbrev pub due : Office → Duty
due o = due_of (placed (o.done + 1) (drop o.done o.orders)) o.ordered

pub record IsOffice (G : Setting) (o : Office) : Type 0 where
  pub number : o.actor.number ≡ 0
  pub plan : G ≡ setting_of o.orders
  pub unfired : last_fired 0 (steps G o.actor.seen) ≡ None
  pub admits : Each (λ b. (b.node ≤ o.admitted) × (b.accepted ≡ 0)) (world G o.actor.seen).admits
  pub duty : duty_in G o.actor.seen ≡ due o

-- who hears this note knows that it is ordered, after all that was heard of the node
pub record IsOrdered (G : Setting) (o : Order) (heard told : List (ℕ × Event)) : Type 0 where
  pub before : List (ℕ × Event)
  pub from : Begins heard before
  pub into : Begins ((0, event.Order) ∷ before) told
  pub line : ℕ
  pub rest : List (ℕ × Act)
  pub next : (duty_in G before).left ≡ (line, act_of o) ∷ rest

-- it is ordered and not done, and there is room to see that it is
pub record Waits (order : Order) (o : Office) : Type 0 where
  pub ordered : o.ordered ≡ true
  pub next : slice_get o.orders o.done ≡ Some order
  pub room : 1 ≤ o.actor.room

-- who hears this note knows that it is done: the node is up, or it is down and was up
abbrev pub IsDoneIn : Setting → Bool → ℕ → List (ℕ × Event) → Type 0
IsDoneIn G true node told = ((world G told).nodes node).up ≡ true
IsDoneIn G false node told = (((world G told).nodes node).up ≡ false) × (((world G told).nodes node).was_up ≡ true)

abbrev pub IsDoneAt : Setting → Order → List (ℕ × Event) → Type 0
IsDoneAt G o told = IsDoneIn G o.starts o.node told
