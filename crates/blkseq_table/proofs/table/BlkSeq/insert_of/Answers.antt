use Rattle.blkseq_table.proofs.TailLemmas.{absent_last}
use Rattle.blkseq_table.proofs.table.BlkSeq.insert_of.Goals as goal

pub put-requires-clause-absent : goal.put-requires-clause-absent
put-requires-clause-absent c =
    absent_last c.args.self.now c.in-Commit.id c.args.position (rw c.in-Commit.is at c.requires.apart)
