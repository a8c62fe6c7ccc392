-- what was read, before what the rest reads, is what the bytes read
use Rattle.std.proofs.Common.{◌≡◌, length}
use Rattle.report_read.proofs.CodedLemmas.{with_front}
use Rattle.report_read.proofs.coded.read_coded.Given as goal

abbrev pub invariant-pieces : goal.invariant-pieces
invariant-pieces g l = with_front l.found.items (g.C.Coded.reading l.rest) ≡ g.C.Coded.reading l.bytes

abbrev pub decreases-pieces : goal.decreases-pieces
decreases-pieces g l = length l.rest
