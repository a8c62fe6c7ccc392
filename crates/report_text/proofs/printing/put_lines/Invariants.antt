use Rattle.std.proofs.Common.{◌≡◌, ◌++◌, length}
use Rattle.std.specs.List.{AllByRecursion}
use Rattle.report_text.specs.Types.{FitsLine}
use Rattle.report_text.specs.Text.{lines_text}
use Rattle.report_text.proofs.printing.put_lines.Given as goal

abbrev pub invariant-lines : goal.invariant-lines
invariant-lines l = (l.out.items ++ lines_text l.rest ≡ l.initial.out.items ++ lines_text l.lines) × (AllByRecursion FitsLine l.rest → AllByRecursion FitsLine l.lines)

abbrev pub decreases-lines : goal.decreases-lines
decreases-lines l = length l.rest
