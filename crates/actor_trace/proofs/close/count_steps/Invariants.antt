use Rattle.std.proofs.Common.{◌≡◌, ◌+◌, length}
use Rattle.actor_trace.specs.Actors.{Knows}
use Rattle.actor_trace.specs.Lists.{total}
use Rattle.actor_trace.proofs.close.count_steps.Given as goal

abbrev pub invariant-counting : goal.invariant-counting
invariant-counting g l =
    l.count + total (λ (a : Knows g.row.M-Event.Denot). length a.made) l.rest ≡ total (λ (a : Knows g.row.M-Event.Denot). length a.made) l.actors

abbrev pub decreases-counting : goal.decreases-counting
decreases-counting g l = length l.rest
