-- those behind are let go
use Rattle.std.proofs.Common.{length}
use Rattle.blkseq_table.proofs.TailLemmas.{Tail}
use Rattle.blkseq_table.proofs.table.BlkSeq.kept_len.Given as goal

abbrev pub invariant-tail : goal.invariant-tail
invariant-tail l = Tail l.fn.self l.rest l.position

abbrev pub decreases-tail : goal.decreases-tail
decreases-tail l = length l.rest
