use Rattle.std.proofs.Common.{sym, ap, ◌∙◌}
use Rattle.actor_trace.specs.Actors.{fresh}
use Rattle.node_cases.proofs.runs.opened.Goals as goal

pub last-session-requires : goal.last-session-requires
last-session-requires g c = c.in_ok-made.ensures.actors ∙ ap (λ n. fresh n) (sym c.requires.actors.0 ∙ c.requires.actors.1)
