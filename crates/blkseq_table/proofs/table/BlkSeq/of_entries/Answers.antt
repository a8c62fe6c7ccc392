use Rattle.std.proofs.Common.{length}
use Rattle.blkseq_table.specs.OfLogs.{identities_of}
use Rattle.blkseq_table.proofs.TailLemmas.{put_apart, put_more}
use Rattle.blkseq_table.proofs.table.BlkSeq.of_entries.Goals as goal

pub insert_of-requires-clause-apart : goal.insert_of-requires-clause-apart
insert_of-requires-clause-apart c =
    put_apart (identities_of c.args.entries.now) c.entries.table c.in-Some.entry.now c.entries.position c.entries.rest.now c.in-Some.others.now
    (length c.args.entries.now) c.in-Some.ensures.cases.0 c.entries.invariant

pub entries-preserved : goal.entries-preserved
entries-preserved c =
    put_more (identities_of c.args.entries.now) c.entries.table c.insert_of.new.self c.in-Some.entry.now c.entries.position c.entries.rest.now
    c.in-Some.others.now (length c.args.entries.now) c.in-Some.ensures.cases.0 c.in_ok-insert_of.ensures.last c.entries.invariant
