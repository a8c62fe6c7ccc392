use Rattle.std.proofs.Common.{◌≡◌, None, length}
use Rattle.history_base.specs.Tail.{first_of}
use Rattle.history_base.proofs.tails.first_master.Given as goal

abbrev pub invariant-nodes : goal.invariant-nodes
invariant-nodes l = first_of l.all l.found l.rest ≡ first_of l.all None l.all

abbrev pub decreases-nodes : goal.decreases-nodes
decreases-nodes l = length l.rest
