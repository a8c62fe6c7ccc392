use Rattle.std.specs.Prelude.{[], ◌∷◌}
use Rattle.actor_trace.proofs.actor.Actor.step.Given as goal

abbrev pub ghosts-say : goal.ghosts-say
ghosts-say g a = record { by = a.number; events = a.event.now ∷ [] }
