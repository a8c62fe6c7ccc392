-- what was read, escaped, stands before the rest
use Rattle.std.proofs.Common.{◌≡◌, ◌++◌, length}
use Rattle.key_code.specs.Codes.{escaped}
use Rattle.key_code.proofs.escapes.read_ended.Given as goal

abbrev pub invariant-reading : goal.invariant-reading
invariant-reading l = escaped l.text.items ++ l.rest ≡ l.bytes

abbrev pub decreases-reading : goal.decreases-reading
decreases-reading l = length l.rest
