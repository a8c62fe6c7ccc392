-- A node has its turn: the operator admits its store, the node knows that, goes down or comes up, and the operator learns it.
use Rattle.std.specs.Prelude.{◌≡◌, ◌+◌, ◌≤◌, ◌++◌, List}
use Rattle.actor_trace.specs.Actors.{Knows}
use Rattle.actor_trace.specs.History.{entries_of}
use Rattle.actor_trace.specs.Lists.{Begins}
use Rattle.cluster_consensus.specs.Facts.{Admit}
use Rattle.cluster_events.specs.Settings.{Setting}
use Rattle.cluster_steps.specs.declared.events.Event.{Event}
use Rattle.node_state.specs.Calls.{IsAsBefore}
use Rattle.node_state.specs.Nodes.{IsOwn, events_of}
use Rattle.node_state.specs.Stores.{Stored, held_of}
use Rattle.node_openings.specs.declared.found.StoreFound.{StoreFound}
use Rattle.node_starts.specs.Admits.{AdmitsBelow, deeds_at}
use Rattle.node_starts.specs.Order.{GoesOn}
use Rattle.node_starts.specs.Starts.{HasTurn, KeepsStore, LearnsMore, StartsAs}

-- the node knows all that was done so far; neither did anything
pub record Informs (G : Setting) (o : Knows Event) (n : Stored) (told : Knows Event) (m : Stored) : Type 0 where
  pub same : IsAsBefore (held_of n) (held_of m)
  pub over : m.over ≡ n.over
  pub learned : LearnsMore G o told
  pub knows : Begins told.seen m.actor.seen
  pub was : o.made ≡ entries_of o.number o.seen
  pub own : IsOwn G (held_of m)
  pub made : m.actor.made ≡ entries_of m.actor.number m.actor.seen

-- the operator knows what the node did, and all before it; neither did anything
pub record Learns (G : Setting) (o : Knows Event) (n : Stored) (now : Knows Event) (m : Stored) : Type 0 where
  pub same : IsAsBefore (held_of n) (held_of m)
  pub over : m.over ≡ n.over
  pub learned : LearnsMore G o now
  pub knows : Begins m.actor.seen now.seen
  pub made : m.actor.made ≡ entries_of m.actor.number m.actor.seen
  pub own : now.made ≡ entries_of now.number now.seen

-- a node's turn is over: what became of it, what the operator did, and that this comes behind all that was done before
pub record TurnOver (G : Setting) (s : StoreFound) (o : Knows Event) (n : Stored) (now : Knows Event) (m : Stored) : Type 0 where
  pub starts : StartsAs s n m
  pub knows : Begins m.actor.seen now.seen
  pub did : events_of now.made ≡ events_of o.made ++ deeds_at n.vote.node s
  pub order : GoesOn n.vote.node o n.actor now m.actor

-- what holds in any case, also where memory was wanted
pub record TurnSafe (G : Setting) (s : StoreFound) (o : Knows Event) (n : Stored) (now : Knows Event) (m : Stored) : Type 0 where
  pub kept : KeepsStore n.over m.over
  pub more : Begins o.seen now.seen
  pub below : (all : List Admit) → HasTurn G all n.vote.node s o n → AdmitsBelow G all (n.vote.node + 1) now
  pub room : o.room ≤ now.room + 1
