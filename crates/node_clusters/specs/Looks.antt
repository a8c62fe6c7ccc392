-- Before a call a node hears what anybody did last, and behind the call it notes all that it knows. What it does in between is what the
-- call does.
use Rattle.std.specs.Prelude.{ℕ, ◌≡◌, Option, Some, List, IfSome}
use Rattle.actor_trace.specs.History.{entries_of}
use Rattle.actor_trace.specs.Lists.{Begins}
use Rattle.cluster_events.specs.Settings.{Setting}
use Rattle.cluster_steps.specs.declared.events.Event.{Event}
use Rattle.node_state.specs.Calls.{IsAsBefore}
use Rattle.node_state.specs.Nodes.{IsOwn}
use Rattle.node_state.specs.Stores.{Stored, held_of}

-- it heard what was told last
pub record IsReady (G : Setting) (last : Option (List (ℕ × Event))) (old new : Stored) : Type 0 where
  pub same : IsAsBefore (held_of old) (held_of new)
  pub over : new.over ≡ old.over
  pub own : IsOwn G (held_of new)
  pub knew : old.actor.made ≡ entries_of old.actor.number old.actor.seen
  pub knows : new.actor.made ≡ entries_of new.actor.number new.actor.seen
  pub heard : IfSome last (λ n. Begins n new.actor.seen)

-- it notes what it knows
pub record IsNoted (G : Setting) (old new : Stored) (next : Option (List (ℕ × Event))) : Type 0 where
  pub own : IsOwn G (held_of old)
  pub same : IsAsBefore (held_of old) (held_of new)
  pub over : new.over ≡ old.over
  pub knows : new.actor.made ≡ entries_of new.actor.number new.actor.seen
  pub told : next ≡ Some new.actor.seen
