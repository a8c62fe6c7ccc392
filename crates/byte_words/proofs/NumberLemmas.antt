-- The value of digits, and when it passes a limit.
use Rattle.std.proofs.Common.{ℕ, ◌+◌, ◌-◌, ◌*◌, ◌≤◌, List, [], ◌∷◌, arith}
use Rattle.byte_words.specs.Words.{value_from}

pub value_grows : (digits : List ℕ) (value : ℕ) → value ≤ value_from value digits
value_grows [] value = omega arith
value_grows (digit ∷ digits) value = let k = value_grows digits (value * 10 + (digit - 48)) in omega arith
