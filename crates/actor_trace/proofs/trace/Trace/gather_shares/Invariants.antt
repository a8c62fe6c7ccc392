use Rattle.std.proofs.Common.{List, ◌≡◌, ◌+◌, ◌++◌, map, reverse, vec_len, vec_capacity}
use Rattle.actor_trace.specs.Actors.{Knows, tag_of}
use Rattle.actor_trace.specs.Views.{has}
use Rattle.actor_trace.proofs.trace.Trace.gather_shares.Given as goal

abbrev pub invariant-gathering : goal.invariant-gathering
invariant-gathering g l =
    (l.seat.table_id ≡ l.self.table.shared.table_id)
    × (vec_len l.shares + vec_len l.actors ≡ vec_capacity l.shares)
    × ((back : List (Knows g.row.M-Event.Denot)) × (reverse l.fn.actors.items ≡ back ++ reverse l.actors.items) × (l.seat.me ≡ has back) × (l.shares.items ≡ map tag_of back))

abbrev pub decreases-gathering : goal.decreases-gathering
decreases-gathering g l = goal.left-gathering g l
