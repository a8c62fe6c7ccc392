-- what was added, with the rest escaped, is the whole
use Rattle.std.proofs.Common.{◌≡◌, ◌++◌, length}
use Rattle.key_code.specs.Codes.{escaped}
use Rattle.key_code.proofs.escapes.put_ended.Given as goal

abbrev pub invariant-escaping : goal.invariant-escaping
invariant-escaping l = l.out.items ++ escaped l.rest ≡ l.fn.out.items ++ escaped l.bytes

abbrev pub decreases-escaping : goal.decreases-escaping
decreases-escaping l = length l.rest
