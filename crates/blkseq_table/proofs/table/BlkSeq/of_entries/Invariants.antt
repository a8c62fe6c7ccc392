-- the identities so far, with those that are left, are all
use Rattle.std.proofs.Common.{length}
use Rattle.blkseq_table.specs.OfLogs.{identities_of}
use Rattle.blkseq_table.proofs.TailLemmas.{Put}
use Rattle.blkseq_table.proofs.table.BlkSeq.of_entries.Given as goal

abbrev pub invariant-entries : goal.invariant-entries
invariant-entries l = Put (identities_of l.entries) l.table l.position l.rest (length l.entries)

abbrev pub decreases-entries : goal.decreases-entries
decreases-entries l = length l.rest
