use Rattle.std.proofs.Common.{◌≡◌, ◌++◌, length}
use Rattle.report_text.specs.Text.{quoted}
use Rattle.report_text.proofs.printing.put_quoted.Given as goal

abbrev pub invariant-bytes : goal.invariant-bytes
invariant-bytes l = l.out.items ++ quoted l.rest ≡ l.initial.out.items ++ quoted l.text

abbrev pub decreases-bytes : goal.decreases-bytes
decreases-bytes l = length l.rest
