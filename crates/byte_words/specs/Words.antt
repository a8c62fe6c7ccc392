-- Pieces, names and numbers, and what stands behind them.
--
-- Each of them is taken from the front of the bytes: the longest one that stands there. Pieces and numbers may have
-- blanks in front. What is taken gives the bytes behind it, and nothing where it does not come next.
--
-- A piece is bytes without a blank; the lines of a script are made of pieces.
use Rattle.std.specs.Prelude.{ℕ, ◌+◌, ◌-◌, ◌*◌, ◌==◌, ◌∷◌, [], List, length, Bool, false, ◌&&◌, ◌||◌, not, if◌then◌else◌, nat_le, Option, Some, None, ◌^◌}
use Rattle.std.specs.List.{list_any, list_all}

infixl 10 ◌>>=◌
abbrev pub ◌>>=◌ : {A B : Type 0} → Option A → (A → Option B) → Option B
None >>= next = None
(Some x) >>= next = next x

-- the bytes at the front that pass a test
abbrev pub front : (ℕ → Bool) → List ℕ → List ℕ
front test [] = []
front test (b ∷ bs) = if test b then b ∷ front test bs else []

-- the bytes from the first one on that does not pass
abbrev pub behind : (ℕ → Bool) → List ℕ → List ℕ
behind test [] = []
behind test (b ∷ bs) = if test b then behind test bs else b ∷ bs

-- space and tab
abbrev pub is_blank : ℕ → Bool
is_blank b = (b == 32) || (b == 9)

abbrev pub is_digit : ℕ → Bool
is_digit b = nat_le 48 b && nat_le b 57

abbrev pub is_lower : ℕ → Bool
is_lower b = nat_le 97 b && nat_le b 122

abbrev pub is_upper : ℕ → Bool
is_upper b = nat_le 65 b && nat_le b 90

-- letters, digits and the underscore
abbrev pub is_word_byte : ℕ → Bool
is_word_byte b = is_lower b || is_upper b || is_digit b || (b == 95)

-- the piece that comes next, which is empty only at the end, and what stands behind it
abbrev pub is_piece_byte : ℕ → Bool
is_piece_byte b = not (is_blank b)

abbrev pub piece : List ℕ → List ℕ
piece bytes = front is_piece_byte (behind is_blank bytes)

abbrev pub after_piece : List ℕ → List ℕ
after_piece bytes = behind is_piece_byte (behind is_blank bytes)

-- one certain byte
abbrev pub after_sign : ℕ → List ℕ → Option (List ℕ)
after_sign sign [] = None
after_sign sign (b ∷ bs) = if b == sign then Some bs else None

-- whether nothing but blanks is left
abbrev pub is_end : List ℕ → Bool
is_end bytes = length (behind is_blank bytes) == 0

-- a letter or the underscore
abbrev pub begins_name : ℕ → Bool
begins_name b = is_lower b || is_upper b || (b == 95)

abbrev pub is_begun : List ℕ → Bool
is_begun [] = false
is_begun (b ∷ bs) = begins_name b

-- what fits the rule of names: a letter or an underscore, and letters, digits and underscores behind it
abbrev pub fits_name : List ℕ → Bool
fits_name piece = is_begun piece && list_all is_word_byte piece

-- what keeps a name within its limits: no upper-case letter, and at most 32 bytes
abbrev pub is_within : List ℕ → Bool
is_within word = not (list_any is_upper word) && nat_le (length word) 32

-- a name: what fits the rule and keeps within the limits
abbrev pub is_name : List ℕ → Bool
is_name word = fits_name word && is_within word

-- the value of decimal digits behind those that make up a value already
abbrev pub value_from : ℕ → List ℕ → ℕ
value_from value [] = value
value_from value (digit ∷ digits) = value_from (value * 10 + (digit - 48)) digits

abbrev pub at_most : ℕ → ℕ → Option ℕ
at_most most value = if nat_le value most then Some value else None

-- the value of one digit or more, where it is at most a limit
abbrev pub value_of : ℕ → List ℕ → Option ℕ
value_of most digits = if length digits == 0 then None else at_most most (value_from 0 digits)

abbrev pub number_within : ℕ → List ℕ → Option (ℕ × List ℕ)
number_within most bytes = value_of most (front is_digit bytes) >>= (λ value. Some (value, behind is_digit bytes))

-- a number of at most that size
abbrev pub number_at : ℕ → List ℕ → Option (ℕ × List ℕ)
number_at most bytes = number_within most (behind is_blank bytes)

-- digits as a number is spelled: one or more, and no 0 before others
abbrev pub is_numeral : List ℕ → Bool
is_numeral [] = false
is_numeral (d ∷ ds) = not (d == 48) || (length ds == 0)

-- the value of digits that are spelled so, where it is at most a limit
abbrev pub numeral_of : ℕ → List ℕ → Option ℕ
numeral_of most digits = if is_numeral digits then at_most most (value_from 0 digits) else None

-- the number that a piece is: digits of a value below 2^64, without a zero in front of others
abbrev pub number_of_piece : List ℕ → Option ℕ
number_of_piece piece = if list_all is_digit piece then numeral_of (2 ^ 64 - 1) piece else None
