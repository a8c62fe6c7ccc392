use Rattle.std.proofs.Common.{ℕ, ◌≡◌, ◌+◌, []}
use Rattle.actor_trace.specs.Actors.{fresh}
use Rattle.actor_trace.specs.Lists.{deal}
use Rattle.actor_trace.specs.Views.{a_view}
use Rattle.actor_trace.proofs.open.OpenedTrace.named.Given as goal

abbrev pub invariant-loop-number : goal.invariant-loop-number
invariant-loop-number g l =
    (l.seat.table_id ≡ l.table.shared.table_id)
    × (l.actors.items ≡ fresh l.number)
    × ((k : ℕ) × (l.number + k ≡ l.count) × (l.seat.me ≡ (a_view (deal l.number k) [] [], [])))
