use Rattle.std.proofs.Common.{length}
use Rattle.std.specs.List.{AllByRecursion}
use Rattle.sound_log.specs.Bytes.{IsOfBytes}
use Rattle.sound_log.proofs.bytes.tell_bytes_of_row.Given as goal

abbrev pub invariant-values : goal.invariant-values
invariant-values l = AllByRecursion IsOfBytes l.rest → AllByRecursion IsOfBytes l.values

abbrev pub decreases-values : goal.decreases-values
decreases-values l = length l.rest
