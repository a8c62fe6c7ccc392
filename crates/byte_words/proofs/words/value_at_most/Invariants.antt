use Rattle.std.proofs.Common.{◌≡◌, ◌≤◌, length}
use Rattle.byte_words.specs.Words.{value_from}
use Rattle.byte_words.proofs.words.value_at_most.Given as goal

abbrev pub invariant-digits : goal.invariant-digits
invariant-digits l = (value_from l.value l.rest ≡ value_from 0 l.digits) × (l.value ≤ l.most)

abbrev pub decreases-digits : goal.decreases-digits
decreases-digits l = length l.rest
