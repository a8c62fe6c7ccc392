use Rattle.std.proofs.Common.{◌∙◌, sym}
use Rattle.std.specs.Prelude.{is_ok}
use Rattle.own_writes.proofs.KeptLemmas.{kept_more, longer_if, marked_if}
use Rattle.own_writes.proofs.writes.is_marked.Goals as goal

pub returns-in-Ok-clause-kept : goal.returns-in-Ok-clause-kept
returns-in-Ok-clause-kept c =
    marked_if (is_ok c.push.result) c.args.ops.now c.args.stamps.now.items c.push.new.self.items c.args.marks.now c.mark_up.new.marks c.args.op.now c.args.stamp
    c.requires.kept c.mark_up.ensures.keeps c.in-Ok.ensures.marked c.requires.place c.requires.small c.requires.above c.push.ensures.items

pub returns-in-Ok-clause-more : goal.returns-in-Ok-clause-more
returns-in-Ok-clause-more c = λ is. longer_if (is_ok c.push.result) c.args.stamps.now.items c.push.new.self.items c.args.stamp c.push.ensures.items (sym c.is_ok.ensures.value ∙ is)

pub returns-in-Err-clause-kept : goal.returns-in-Err-clause-kept
returns-in-Err-clause-kept c =
    kept_more c.args.ops.now c.args.stamps.now.items c.args.marks.now c.mark_up.new.marks c.mark_up.ensures.keeps c.requires.kept
