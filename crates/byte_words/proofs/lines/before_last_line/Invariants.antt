use Rattle.std.proofs.Common.{length}
use Rattle.byte_words.proofs.LineLaws.{IsFrontOf}
use Rattle.byte_words.proofs.lines.before_last_line.Given as goal

abbrev pub invariant-bytes : goal.invariant-bytes
invariant-bytes l = IsFrontOf l.fn.bytes l.rest

abbrev pub decreases-bytes : goal.decreases-bytes
decreases-bytes l = length l.rest
