use Rattle.std.proofs.Common.{◌≤◌, length, arith}
use Rattle.own_writes.proofs.KeptLemmas.{kept_out, small_out}
use Rattle.own_writes.proofs.writes.take_marked.Goals as goal

pub remove-op-requires : goal.remove-op-requires
remove-op-requires c =
    let few : length c.args.stamps.now.items ≤ length c.args.ops.now.items = c.requires.kept.few in
    omega arith

pub unmark-requires : goal.unmark-requires
unmark-requires c =
    small_out c.args.ops.now.items c.args.stamps.now.items c.args.marks.now c.args.at c.remove-stamp.result c.requires.kept c.requires.place c.remove-stamp.ensures.value

pub returns-clause-kept : goal.returns-clause-kept
returns-clause-kept c =
    kept_out c.args.ops.now.items c.args.stamps.now.items c.args.marks.now c.unmark.new.marks c.args.at c.remove-stamp.result c.remove-op.new.self.items c.remove-stamp.new.self.items
    c.requires.kept c.requires.place c.remove-stamp.ensures.value c.remove-op.ensures.by_index.2 c.remove-stamp.ensures.items c.unmark.ensures
