use Rattle.std.proofs.Common.{◌≡◌, ◌++◌, length}
use Rattle.report_text.specs.Text.{hexadecimal}
use Rattle.report_text.proofs.printing.put_hexadecimal.Given as goal

abbrev pub invariant-bytes : goal.invariant-bytes
invariant-bytes l = l.out.items ++ hexadecimal l.rest ≡ l.initial.out.items ++ hexadecimal l.blob

abbrev pub decreases-bytes : goal.decreases-bytes
decreases-bytes l = length l.rest
