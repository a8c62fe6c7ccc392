use Rattle.std.proofs.Common.{length}
use Rattle.std.specs.List.{AllByRecursion}
use Rattle.key_code.specs.Codes.{IsInRange}
use Rattle.block_processor.proofs.operations.read_row.Given as goal

abbrev pub invariant-values : goal.invariant-values
invariant-values l = AllByRecursion IsInRange l.rest → AllByRecursion IsInRange l.row

abbrev pub decreases-values : goal.decreases-values
decreases-values l = length l.rest
