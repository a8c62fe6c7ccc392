-- A consumer is offered changed rows one at a time, and means the list of those that it took.
use Rattle.std.specs.Prelude.{◌≡◌, ℕ, List, [], ◌∷◌, ◌++◌, Option, None, Some, ⊤}
use Rattle.cdb_outside.specs.Faults.{Rose}
use Rattle.cdb_outside.specs.declared.consumer.RowEvent.{RowEvent}
use Rattle.cdb_outside.specs.declared.consumer.Taken.{Taken}
use Rattle.cdb_outside.specs.declared.consumer.Taken.TheVariants.{Took, Failed}

-- the events that were taken after an answer to one more
abbrev pub events_after : List RowEvent → RowEvent → Taken → List RowEvent
events_after events event Took = events ++ event ∷ []
events_after events event Failed = events

-- an offer adds the event to those that are told where the consumer took it, and nothing where it failed
abbrev pub Offers : Option (List RowEvent) → Option (List RowEvent) → RowEvent → Taken → Type 0
Offers None new event answer = ⊤
Offers (Some events) new event answer = new ≡ Some (events_after events event answer)

-- an offer that failed raised the count, and one that did not left it
abbrev pub FailsByCount : ℕ → ℕ → Taken → Type 0
FailsByCount before now Took = now ≡ before
FailsByCount before now Failed = Rose before now
