-- What the steps of the tokenizer give, each as a function of the bytes. No public clause speaks of them.
use Rattle.std.specs.Prelude.{◌≡◌, ℕ, ◌+◌, ◌-◌, ◌==◌, true, List, [], ◌∷◌, ◌++◌, length, take, Option, Some, None, option_map, option_and_then, nat_le, bytes_eq, if◌then◌else◌, find}
use Rattle.std.specs.List.{prefix_len}
use Rattle.std.specs.Char.{is_ascii_digit}
use Rattle.sql_tokens.specs.Letters.{is_word_start, is_word_byte, is_quote, is_x, begins_blob, hex_byte}
use Rattle.sql_tokens.specs.Words.{folded, spelling}
use Rattle.sql_tokens.specs.Values.{largest, value_of}
use Rattle.sql_tokens.specs.Spot.{Spot}
use Rattle.sql_tokens.specs.Tokens.{Tokens}
use Rattle.sql_tokens.specs.declared.kinds.Keyword.{Keyword}
use Rattle.sql_tokens.specs.declared.kinds.Sign.{Sign}
use Rattle.sql_tokens.specs.declared.kinds.Sign.TheVariants as sign
use Rattle.sql_tokens.specs.declared.kinds.Token.{Token}
use Rattle.sql_tokens.specs.declared.kinds.Token.TheVariants as token
use Rattle.sql_tokens.specs.declared.found.Found.{Found}
use Rattle.sql_tokens.specs.declared.found.Copied.{Copied}
use Rattle.sql_tokens.specs.declared.words.TheConstants.{KEYWORDS}

abbrev pub found : Token → ℕ → Found
found t n = record { token = t; size = n }

abbrev pub copied : List ℕ → ℕ → Copied
copied bs n = record { bytes = bs; left = n }

-- one more byte before those that were copied
abbrev pub with_byte : ℕ → Option Copied → Option Copied
with_byte b None = None
with_byte b (Some c) = Some (copied (b ∷ c.bytes) c.left)

-- more bytes before those that were copied
abbrev pub with_all : List ℕ → Option Copied → Option Copied
with_all bs None = None
with_all bs (Some c) = Some (copied (bs ++ c.bytes) c.left)

-- the characters of a text behind its first quote, and how many bytes are left behind its last
unfoldable pub text_from : List ℕ → Option Copied
text_from [] = None
text_from (c ∷ []) = if is_quote c then Some (copied [] 0) else None
text_from (c ∷ d ∷ more) =
    if is_quote c
    then (if is_quote d then with_byte c (text_from more) else Some (copied [] (length (d ∷ more))))
    else with_byte c (text_from (d ∷ more))

-- the bytes of a blob behind its first quote
unfoldable pub blob_from : List ℕ → Option Copied
blob_from [] = None
blob_from (h ∷ []) = if is_quote h then Some (copied [] 0) else None
blob_from (h ∷ l ∷ more) =
    if is_quote h
    then Some (copied [] (length (l ∷ more)))
    else option_and_then (λ b. with_byte b (blob_from more)) (hex_byte h l)

-- the keyword that a folded word spells
unfoldable pub keyword_of : List ℕ → Option Keyword
keyword_of w = find (λ k. bytes_eq (spelling k) w) KEYWORDS

abbrev pub word_token : List ℕ → Option Keyword → Token
word_token w None = token.Name w
word_token w (Some k) = token.Keyword k

-- the word at the front
unfoldable pub word_found : List ℕ → Found
word_found bs =
    let n = prefix_len is_word_byte bs in
    found (word_token (folded (take n bs)) (keyword_of (folded (take n bs)))) n

-- the number that digits spell, if it is not too large
abbrev pub number_value : List ℕ → Option ℕ
number_value ds = if nat_le (value_of ds) largest then Some (value_of ds) else None

-- the number at the front
unfoldable pub number_found : List ℕ → Option Found
number_found bs =
    let n = prefix_len is_ascii_digit bs in
    option_map (λ v. found (token.Number v) n) (number_value (take n bs))

-- the text at the front, behind whose first quote the bytes `after` stand
abbrev pub text_found : List ℕ → Option Found
text_found after = option_map (λ c. found (token.Text c.bytes) (length after - c.left + 1)) (text_from after)

-- the blob at the front, behind whose first quote the bytes `after` stand
abbrev pub blob_found : List ℕ → Option Found
blob_found after = option_map (λ c. found (token.Blob c.bytes) (length after - c.left + 2)) (blob_from after)

-- the sign that two bytes spell
abbrev pub long_sign : ℕ → ℕ → Option Sign
long_sign a b =
    if a == 60 then (if b == 61 then Some sign.LessEqual else (if b == 62 then Some sign.NotEqual else None))
    else (if a == 62 then (if b == 61 then Some sign.GreaterEqual else None)
    else (if a == 33 then (if b == 61 then Some sign.NotEqual else None)
    else None))

-- the sign that one byte spells
abbrev pub short_sign : ℕ → Option Sign
short_sign a =
    if a == 40 then Some sign.Open
    else (if a == 41 then Some sign.Close
    else (if a == 44 then Some sign.Comma
    else (if a == 46 then Some sign.Dot
    else (if a == 59 then Some sign.Semicolon
    else (if a == 42 then Some sign.Star
    else (if a == 61 then Some sign.Equal
    else (if a == 60 then Some sign.Less
    else (if a == 62 then Some sign.Greater
    else (if a == 43 then Some sign.Plus
    else (if a == 45 then Some sign.Minus
    else None))))))))))

abbrev pub sign_found_of : Option Sign → Option Sign → Option Found
sign_found_of None short = option_map (λ s. found (token.Sign s) 1) short
sign_found_of (Some s) short = Some (found (token.Sign s) 2)

-- the sign at the front
unfoldable pub sign_found : List ℕ → Option Found
sign_found [] = None
sign_found (a ∷ []) = sign_found_of None (short_sign a)
sign_found (a ∷ b ∷ bs) = sign_found_of (long_sign a b) (short_sign a)

-- an `x`, a quote, and what stands behind them
abbrev pub IsBlobStart : List ℕ → List ℕ → Type 0
IsBlobStart bs after = (x : ℕ) × (is_x x ≡ true) × (bs ≡ x ∷ 39 ∷ after)

-- the bytes behind the first two
abbrev pub after_two : List ℕ → List ℕ
after_two [] = []
after_two (b ∷ []) = []
after_two (b ∷ c ∷ bs) = bs

-- the token at the front, if one begins there
unfoldable pub next : List ℕ → Option Found
next [] = None
next (b ∷ bs) =
    if begins_blob (b ∷ bs) then blob_found (after_two (b ∷ bs))
    else (if is_word_start b then Some (word_found (b ∷ bs))
    else (if is_ascii_digit b then number_found (b ∷ bs)
    else (if is_quote b then text_found bs
    else sign_found (b ∷ bs))))

-- the spots `out` were read from a text up to its part `rest`: with the spots of that part they are all of the text's
pub record IsSoFar (text rest : List ℕ) (out : List Spot) : Type 0 where
  pub goes_on : (ss : List Spot) → Tokens (length text - length rest) rest ss → Tokens 0 text (out ++ ss)
