use Rattle.std.proofs.Common.{◌≡◌, length}
use Rattle.node_state.specs.Nodes.{events_of}
use Rattle.node_state.specs.Ships.{learned_by}
use Rattle.node_state.proofs.ships.has_learned.Given as goal

abbrev pub invariant-steps : goal.invariant-steps
invariant-steps l = learned_by (events_of l.rest) ≡ learned_by (events_of l.steps)

abbrev pub decreases-steps : goal.decreases-steps
decreases-steps l = length l.rest
