use Rattle.std.proofs.Common.{List, ◌≡◌, ◌++◌, reverse}
use Rattle.actor_trace.specs.Actors.{Knows}
use Rattle.actor_trace.specs.Views.{has}
use Rattle.actor_trace.proofs.trace.Trace.gather.Given as goal

abbrev pub invariant-gathering : goal.invariant-gathering
invariant-gathering g l =
    (l.seat.table_id ≡ l.self.table.shared.table_id)
    × ((back : List (Knows g.row.M-Event.Denot)) × (reverse l.fn.actors.items ≡ back ++ reverse l.actors.items) × (l.seat.me ≡ has back))

abbrev pub decreases-gathering : goal.decreases-gathering
decreases-gathering g l = goal.left-gathering g l
