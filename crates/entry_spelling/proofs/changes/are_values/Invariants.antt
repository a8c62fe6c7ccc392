use Rattle.std.proofs.Common.{length}
use Rattle.key_code.specs.Codes.{IsRowValue}
use Rattle.entry_spelling.proofs.RestLemmas.{IsRest}
use Rattle.entry_spelling.proofs.changes.are_values.Given as goal

abbrev pub invariant-values : goal.invariant-values
invariant-values l = IsRest IsRowValue l.rest l.values

abbrev pub decreases-values : goal.decreases-values
decreases-values l = length l.rest
