use Rattle.std.proofs.Common.{◌≡◌, ◌++◌}
use Rattle.std.specs.Vec.Iter.{into_iter_items}
use Rattle.report_laws.specs.Told.{lines_of}
use Rattle.script_play.specs.Effects.{Grown}
use Rattle.script_play.proofs.run.add_replies.Given as goal

abbrev pub invariant-replies : goal.invariant-replies
invariant-replies l =
    (l.lines.items ++ lines_of l.name l.number (into_iter_items l.reply-iterator) ≡ l.fn.lines.items ++ lines_of l.name l.number l.fn.replies.items)
    × Grown l.fn.lines.items l.lines.items
