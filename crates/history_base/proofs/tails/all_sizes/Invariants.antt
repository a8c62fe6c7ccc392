use Rattle.std.proofs.Common.{◌≡◌, ◌≤◌, ◌-◌, length, reverse}
use Rattle.history_base.specs.Tail.{all_sizes as sizes_of_all}
use Rattle.history_base.proofs.tails.all_sizes.Given as goal

abbrev pub invariant-nodes : goal.invariant-nodes
invariant-nodes l = (l.done ≤ l.nodes) × (l.all.items ≡ sizes_of_all l.done l.lengths (reverse l.events)) × (length l.all.items ≡ l.done)

abbrev pub decreases-nodes : goal.decreases-nodes
decreases-nodes l = l.nodes - l.done
