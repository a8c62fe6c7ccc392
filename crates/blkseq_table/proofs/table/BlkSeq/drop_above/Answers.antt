use Rattle.std.proofs.Common.{sym}
use Rattle.blkseq_table.proofs.TailLemmas.{table_cut, cut_is}
use Rattle.blkseq_table.proofs.table.BlkSeq.drop_above.Goals as goal

pub invariant_of-self : goal.invariant_of-self
invariant_of-self c =
    table_cut c.self.inside.sessions.keys c.self.inside.map.entries c.truncate.new.self.entries c.args.self.now c.kept_len-kept.result c.args.position (sym c.self.view_is)
    c.truncate.ensures.entries c.kept_len-kept.ensures c.self.invariant

pub returns : goal.returns
returns c =
    cut_is c.self.inside.sessions.keys c.self.inside.map.entries c.truncate.new.self.entries c.args.self.now c.kept_len-kept.result c.args.position (sym c.self.view_is)
    c.truncate.ensures.entries c.kept_len-kept.ensures
