use Rattle.std.proofs.Common.{length}
use Rattle.std.specs.List.{AllByRecursion}
use Rattle.sound_log.specs.Bytes.{RowIsOfBytes}
use Rattle.sound_log.proofs.bytes.tell_bytes_of_rows.Given as goal

abbrev pub invariant-versions : goal.invariant-versions
invariant-versions l = AllByRecursion RowIsOfBytes l.rest → AllByRecursion RowIsOfBytes l.versions

abbrev pub decreases-versions : goal.decreases-versions
decreases-versions l = length l.rest
