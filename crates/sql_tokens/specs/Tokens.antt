-- The tokens of a text. Tokens at bs ss: the bytes bs, which stand from the place `at` on, are cut into the spots ss.
-- Blanks stand between tokens. Where bytes are left and none of them begins a token, the token there is `Unknown`, and
-- it is the last.
use Rattle.std.specs.Prelude.{◌≡◌, ℕ, ◌+◌, true, false, List, [], ◌∷◌, ◌++◌, length}
use Rattle.sql_tokens.specs.Letters.{is_blank}
use Rattle.sql_tokens.specs.Token.{IsToken}
use Rattle.sql_tokens.specs.Spot.{Spot, spot}
use Rattle.sql_tokens.specs.declared.kinds.Token.{Token}
use Rattle.sql_tokens.specs.declared.kinds.Token.TheVariants as token

-- no token is spelled at the front of these bytes
abbrev pub NoneBegins : List ℕ → Type 0
NoneBegins bs = (t : Token) (w rest : List ℕ) → bs ≡ w ++ rest → IsToken t w rest → ⊥

pub data Tokens : ℕ → List ℕ → List Spot → Type 0 where
  no_more : (at : ℕ) → Tokens at [] []
  a_blank : (at b : ℕ) (bs : List ℕ) (ss : List Spot) → is_blank b ≡ true → Tokens (at + 1) bs ss → Tokens at (b ∷ bs) ss
  a_token : (at : ℕ) (bs : List ℕ) (t : Token) (w rest : List ℕ) (ss : List Spot) → bs ≡ w ++ rest → IsToken t w rest → Tokens (at + length w) rest ss → Tokens at bs (spot at t ∷ ss)
  none_begins : (at b : ℕ) (bs : List ℕ) → is_blank b ≡ false → NoneBegins (b ∷ bs) → Tokens at (b ∷ bs) (spot at token.Unknown ∷ [])
