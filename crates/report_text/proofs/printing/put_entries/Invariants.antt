use Rattle.std.proofs.Common.{◌≡◌, ◌++◌, length}
use Rattle.std.specs.List.{AllByRecursion}
use Rattle.report_text.specs.Types.{FitsEntry}
use Rattle.report_text.specs.Text.{entries_text}
use Rattle.report_text.proofs.printing.put_entries.Given as goal

abbrev pub invariant-entries : goal.invariant-entries
invariant-entries l = (l.out.items ++ entries_text l.rest ≡ l.initial.out.items ++ entries_text l.entries) × (AllByRecursion FitsEntry l.rest → AllByRecursion FitsEntry l.entries)

abbrev pub decreases-entries : goal.decreases-entries
decreases-entries l = length l.rest
