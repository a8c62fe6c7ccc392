use Rattle.std.proofs.Common.{◌≡◌, ◌≤◌, length}
use Rattle.sql_tokens.specs.Values.{largest, value_from}
use Rattle.sql_tokens.proofs.values.number_value.Given as goal

abbrev pub invariant-digits : goal.invariant-digits
invariant-digits l = record { small : l.value ≤ largest; same : value_from l.value l.rest ≡ value_from 0 l.fn.digits }

abbrev pub decreases-digits : goal.decreases-digits
decreases-digits l = length l.rest
