-- What one token is: w spells the token, and what stands behind it does not go on with it. Each kind of token has its own
-- rule of where it ends, and nothing else ends one: `1and` is a number and a word.
use Rattle.std.specs.Prelude.{◌≡◌, ℕ, ◌≤◌, true, false, List, [], ◌∷◌, ◌++◌}
use Rattle.std.specs.Char.{is_ascii_digit}
use Rattle.sql_tokens.specs.Letters.{is_quote, is_x, next_is, Each}
use Rattle.sql_tokens.specs.Words.{IsWord, folded, spelling}
use Rattle.sql_tokens.specs.Values.{largest, value_of, quoted, SpellsHex}
use Rattle.sql_tokens.specs.Signs.{IsSign}
use Rattle.sql_tokens.specs.declared.kinds.Keyword.{Keyword}
use Rattle.sql_tokens.specs.declared.kinds.Token.{Token}
use Rattle.sql_tokens.specs.declared.kinds.Token.TheVariants as token

-- decimal digits, all that stand there, of a number that is not too large
pub record IsNumber (n : ℕ) (w rest : List ℕ) : Type 0 where
  pub begins : next_is is_ascii_digit w ≡ true
  pub each : Each is_ascii_digit w
  pub ends : next_is is_ascii_digit rest ≡ false
  pub value : n ≡ value_of w
  pub fits : n ≤ largest

-- a quote, the characters with each quote twice, and a quote with no quote behind it
pub record IsText (cs w rest : List ℕ) : Type 0 where
  pub spelled : w ≡ 39 ∷ quoted cs
  pub ends : next_is is_quote rest ≡ false

-- an `x`, a quote, two hexadecimal digits for each byte, and a quote
pub record IsBlob (bs w : List ℕ) : Type 0 where
  pub x : ℕ
  pub digits : List ℕ
  pub is_x : is_x x ≡ true
  pub each : SpellsHex digits bs
  pub spelled : w ≡ x ∷ 39 ∷ (digits ++ (39 ∷ []))

-- a word that spells the keyword
pub record IsKeyword (k : Keyword) (w rest : List ℕ) : Type 0 where
  pub word : IsWord w rest
  pub spelled : folded w ≡ spelling k

-- a word that spells no keyword
pub record IsName (n w rest : List ℕ) : Type 0 where
  pub word : IsWord w rest
  pub spelled : n ≡ folded w
  pub free : (k : Keyword) → n ≡ spelling k → ⊥

-- no bytes spell `Unknown`: it says that here no token begins
abbrev pub IsToken : Token → List ℕ → List ℕ → Type 0
IsToken (token.Keyword k) w rest = IsKeyword k w rest
IsToken (token.Name n) w rest = IsName n w rest
IsToken (token.Number n) w rest = IsNumber n w rest
IsToken (token.Text cs) w rest = IsText cs w rest
IsToken (token.Blob bs) w rest = IsBlob bs w
IsToken (token.Sign s) w rest = IsSign s w rest
IsToken token.Unknown w rest = ⊥
