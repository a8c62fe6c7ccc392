-- The session of a case, which saw each of the nodes up, asks for begins, and never goes on.
use Rattle.std.specs.Prelude.{◌≡◌, ◌≢◌, List, [], None}
use Rattle.actor_trace.specs.Actors.{Knows}
use Rattle.cluster_events.specs.Arms.{last_fired}
use Rattle.cluster_events.specs.Parts.{part}
use Rattle.cluster_events.specs.Settings.{Setting}
use Rattle.cluster_steps.specs.Named.{steps}
use Rattle.cluster_steps.specs.declared.events.Event.{Event}
use Rattle.node_cases.specs.Plans.{setting_of}
use Rattle.node_cases.specs.Seats.{WereUp}
use Rattle.node_cases.specs.declared.orders.Order.{Order}

pub record IsAsker (G : Setting) (a : Knows Event) : Type 0 where
  pub number : a.number ≡ 4
  pub orders : List Order
  pub plan : G ≡ setting_of orders
  pub unfired : last_fired 4 (steps G a.seen) ≡ None
  pub saw : WereUp G a.seen
  pub left : (part G 4 (steps G a.seen)).left ≢ []
