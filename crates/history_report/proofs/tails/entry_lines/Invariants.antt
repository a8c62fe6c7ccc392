use Rattle.std.proofs.Common.{◌≡◌, ◌+◌, ◌++◌, length}
use Rattle.history_report.specs.Tail.{entry_lines as lines_of}
use Rattle.history_report.proofs.tails.entry_lines.Given as goal

abbrev pub invariant-entries : goal.invariant-entries
invariant-entries l = l.lines.items ++ lines_of (l.position + 1) l.rest ≡ lines_of (l.base + 1) l.fn.entries

abbrev pub decreases-entries : goal.decreases-entries
decreases-entries l = length l.rest
