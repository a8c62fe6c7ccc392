use Rattle.std.proofs.Common.{◌≡◌, ◌++◌, length}
use Rattle.std.specs.List.{AllByRecursion}
use Rattle.report_text.specs.Types.{FitsValue}
use Rattle.report_text.specs.Text.{more_values}
use Rattle.report_text.proofs.printing.put_more_values.Given as goal

abbrev pub invariant-values : goal.invariant-values
invariant-values l = (l.out.items ++ more_values l.rest ≡ l.initial.out.items ++ more_values l.values) × (AllByRecursion FitsValue l.rest → AllByRecursion FitsValue l.values)

abbrev pub decreases-values : goal.decreases-values
decreases-values l = length l.rest
