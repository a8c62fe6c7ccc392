-- The classes of bytes from which tokens are made: letters are ASCII letters, blanks are space and tab.
-- A byte above 127 is in none of them.
use Rattle.std.specs.Prelude.{◌≡◌, ℕ, ◌+◌, ◌*◌, Bool, true, false, ◌||◌, ◌==◌, List, [], ◌∷◌, Option, Some, None, option_map, option_and_then, if◌then◌else◌}
use Rattle.std.specs.Char.{is_ascii_digit, is_ascii_alphabetic, is_ascii_hexdigit, digit_value}

-- a space (32) or a tab (9)
abbrev pub is_blank : ℕ → Bool
is_blank b = (b == 32) || (b == 9)

-- a word begins with a letter or `_` (95)
abbrev pub is_word_start : ℕ → Bool
is_word_start b = is_ascii_alphabetic b || (b == 95)

-- and goes on with letters, `_` and digits
abbrev pub is_word_byte : ℕ → Bool
is_word_byte b = is_word_start b || is_ascii_digit b

-- the quote `'` (39)
abbrev pub is_quote : ℕ → Bool
is_quote b = b == 39

-- the letter with which a blob begins, `x` (120) or `X` (88)
abbrev pub is_x : ℕ → Bool
is_x b = (b == 120) || (b == 88)

-- the next byte is there, and passes the test
abbrev pub next_is : (ℕ → Bool) → List ℕ → Bool
next_is p [] = false
next_is p (b ∷ bs) = p b

-- each byte passes the test
abbrev pub Each : (ℕ → Bool) → List ℕ → Type 0
Each p [] = Unit {0}
Each p (b ∷ bs) = (p b ≡ true) × Each p bs

-- an `x` stands here, and a quote directly behind it
abbrev pub begins_blob : List ℕ → Bool
begins_blob [] = false
begins_blob (b ∷ bs) = if is_x b then next_is is_quote bs else false

-- the value of a hexadecimal digit, in either case of its letters
abbrev pub hex_digit : ℕ → Option ℕ
hex_digit b = if is_ascii_hexdigit b then Some (digit_value b) else None

-- the byte that two hexadecimal digits spell, if both are such digits
abbrev pub hex_byte : ℕ → ℕ → Option ℕ
hex_byte high low = option_and_then (λ h. option_map (λ l. 16 * h + l) (hex_digit low)) (hex_digit high)
