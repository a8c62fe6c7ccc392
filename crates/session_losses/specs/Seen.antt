-- The falls among what one loop did so far.
use Rattle.std.specs.Prelude.{ℕ, List, [], ◌∷◌, ◌++◌}
use Rattle.cluster_steps.specs.declared.events.Event.{Event}
use Rattle.cluster_steps.specs.declared.events.Event.TheVariants as event
use Rattle.trace_order.specs.Done.{Done}

-- the actor that goes down by an event, if it is one that goes down
abbrev pub fallen : ℕ → Event → List ℕ
fallen i (event.Down fault) = i ∷ []
fallen i _ = []

-- so of all steps of a loop, the first of them first
abbrev pub falls_done : List (Done Event) → List ℕ
falls_done [] = []
falls_done (d ∷ ds) = falls_done ds ++ fallen d.by d.event

-- and of one actor's steps
abbrev pub falls_among : ℕ → List (ℕ × Event) → List ℕ
falls_among i [] = []
falls_among i (x ∷ xs) = fallen i x.1 ++ falls_among i xs
