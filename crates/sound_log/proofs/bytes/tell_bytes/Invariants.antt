use Rattle.std.proofs.Common.{length}
use Rattle.sound_log.specs.Bytes.{RowsAreOfBytes}
use Rattle.sound_log.proofs.bytes.tell_bytes.Given as goal

abbrev pub invariant-tables : goal.invariant-tables
invariant-tables l = RowsAreOfBytes l.rest → RowsAreOfBytes l.tables

abbrev pub decreases-tables : goal.decreases-tables
decreases-tables l = length l.rest
