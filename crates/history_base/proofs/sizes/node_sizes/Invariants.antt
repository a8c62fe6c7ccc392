use Rattle.std.proofs.Common.{◌≡◌, ◌++◌, List, ℕ, reverse, length}
use Rattle.cluster_steps.specs.declared.events.Event.{Event}
use Rattle.history_base.specs.Sizes.{sizes_of}
use Rattle.history_base.proofs.sizes.node_sizes.Given as goal

abbrev pub invariant-events : goal.invariant-events
invariant-events l = (done : List (ℕ × Event)) × (reverse l.rest ++ done ≡ reverse l.events) × (l.sizes ≡ sizes_of l.node l.lengths done)

abbrev pub decreases-events : goal.decreases-events
decreases-events l = length l.rest
