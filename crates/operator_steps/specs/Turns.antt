-- The operator's turn in a loop: it knows what the last note tells, does one event, and a note tells what it knows then.
--
--   last      7 events, the last one of them by node 2
--   knew      these 7, and what else was done so far
--   did       Order, right behind what was done
--   next      8 events or more, the operator's own the last of its steps
use Rattle.std.specs.Prelude.{ℕ, ◌≡◌, List, Option, Some, IfSome}
use Rattle.actor_trace.specs.Actors.{Knows}
use Rattle.actor_trace.specs.History.{entries_of}
use Rattle.actor_trace.specs.Lists.{Begins}
use Rattle.actor_trace.specs.Steps.{Adds, Rests}
use Rattle.cluster_events.specs.Settings.{Setting}
use Rattle.cluster_steps.specs.Guards.{AreLegalSteps}
use Rattle.cluster_steps.specs.declared.events.Event.{Event}

-- it did nothing, and knows what the last note tells
pub record IsReady (G : Setting) (last : Option (List (ℕ × Event))) (old new : Knows Event) : Type 0 where
  pub heard : IfSome last (λ note. Begins note new.seen)
  pub rested : Rests 0 old.seen new.seen
  pub lawful : AreLegalSteps G new.seen
  pub before : old.made ≡ entries_of 0 new.seen

-- it did this event, and a note tells what it knows then
pub record DidNext (G : Setting) (e : Event) (old new : Knows Event) (next : Option (List (ℕ × Event))) : Type 0 where
  pub did : List (ℕ × Event)
  pub adds : Adds 0 e old.seen did
  pub legal : AreLegalSteps G did
  pub more : Rests 0 did new.seen
  pub after : AreLegalSteps G new.seen
  pub behind : new.made ≡ entries_of 0 new.seen
  pub noted : next ≡ Some new.seen

-- both, one behind the other
pub record DoesInTurn (G : Setting) (e : Event) (last : Option (List (ℕ × Event))) (old new : Knows Event) (next : Option (List (ℕ × Event))) : Type 0 where
  pub knew : List (ℕ × Event)
  pub heard : IfSome last (λ note. Begins note knew)
  pub rested : Rests 0 old.seen knew
  pub lawful : AreLegalSteps G knew
  pub before : old.made ≡ entries_of 0 knew
  pub did : List (ℕ × Event)
  pub adds : Adds 0 e knew did
  pub legal : AreLegalSteps G did
  pub more : Rests 0 did new.seen
  pub after : AreLegalSteps G new.seen
  pub behind : new.made ≡ entries_of 0 new.seen
  pub noted : next ≡ Some new.seen
