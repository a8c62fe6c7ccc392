-- the operations so far, before those that are left, are all
use Rattle.std.proofs.Common.{◌≡◌, ◌++◌, length}
use Rattle.sql_answer_plain.proofs.laying.add_ops.Given as goal

abbrev pub invariant-ops : goal.invariant-ops
invariant-ops l = l.all ++ l.rest ≡ l.initial.all ++ l.ops

abbrev pub decreases-ops : goal.decreases-ops
decreases-ops l = length l.rest
