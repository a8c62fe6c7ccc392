use Rattle.std.proofs.lemmas.Bool.{false≢true}
use Rattle.blkseq_table.proofs.TailLemmas.{tail_more, tail_end, tail_all, none_left}
use Rattle.blkseq_table.proofs.table.BlkSeq.kept_len.Goals as goal

pub returns-then-last-position : goal.returns-then-last-position
returns-then-last-position c =
    tail_end c.args.self.now c.tail.rest c.in-Some.before (c.in-Some.field-0-0-0.now, c.in-Some.last.now) c.args.position c.len.result
    c.in-Some.ensures.parts c.if-last-position.true c.len.ensures c.tail.invariant

pub tail-preserved : goal.tail-preserved
tail-preserved c =
    tail_more c.args.self.now c.tail.rest c.in-Some.before (c.in-Some.field-0-0-0.now, c.in-Some.last.now) c.args.position
    c.in-Some.ensures.parts c.if-last-position.false c.tail.invariant

pub returns : goal.returns
returns c =
    tail_all c.args.self.now c.tail.rest c.args.position (none_left c.tail.rest (λ some. false≢true (c.in_default.ensures.found.1 some)))
    c.tail.invariant
