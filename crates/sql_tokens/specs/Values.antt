-- What the digits of a number, the quotes of a text and the digits of a blob stand for.
use Rattle.std.specs.Prelude.{◌≡◌, ℕ, ◌+◌, ◌-◌, ◌*◌, List, [], ◌∷◌, Some, if◌then◌else◌}
use Rattle.sql_tokens.specs.Letters.{is_quote, hex_byte}

-- the largest number of a token, 2 ^ 63
abbrev pub largest : ℕ
largest = 9223372036854775808

-- the number that n becomes by the decimal digits behind it; 48 is the digit 0
abbrev pub value_from : ℕ → List ℕ → ℕ
value_from n [] = n
value_from n (d ∷ ds) = value_from (10 * n + (d - 48)) ds

-- the number that decimal digits spell, leading zeros among them
abbrev pub value_of : List ℕ → ℕ
value_of ds = value_from 0 ds

-- a text behind its first quote: each quote in it twice, and one quote at its end
abbrev pub quoted : List ℕ → List ℕ
quoted [] = 39 ∷ []
quoted (c ∷ cs) = if is_quote c then c ∷ c ∷ quoted cs else c ∷ quoted cs

-- hexadecimal digits spell bytes, two digits for each byte
abbrev pub SpellsHex : List ℕ → List ℕ → Type 0
SpellsHex [] [] = Unit {0}
SpellsHex [] (b ∷ bs) = ⊥
SpellsHex (high ∷ []) bs = ⊥
SpellsHex (high ∷ low ∷ ds) [] = ⊥
SpellsHex (high ∷ low ∷ ds) (b ∷ bs) = (hex_byte high low ≡ Some b) × SpellsHex ds bs
