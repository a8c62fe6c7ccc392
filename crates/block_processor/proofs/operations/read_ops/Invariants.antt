use Rattle.std.proofs.Common.{length}
use Rattle.std.specs.List.{AllByRecursion}
use Rattle.key_code.specs.Codes.{IsInRange}
use Rattle.block_processor.specs.Asked.{Writes}
use Rattle.block_processor.proofs.operations.read_ops.Given as goal

abbrev pub invariant-ops : goal.invariant-ops
invariant-ops l = AllByRecursion (Writes IsInRange) l.rest → AllByRecursion (Writes IsInRange) l.ops

abbrev pub decreases-ops : goal.decreases-ops
decreases-ops l = length l.rest
