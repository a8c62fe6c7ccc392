-- A token and the place where it begins: how many bytes of the text stand before it.
use Rattle.std.specs.Prelude.{ℕ, List, [], ◌∷◌}
use Rattle.sql_tokens.specs.declared.kinds.Token.{Token}

pub record Spot : Type 0 where
  pub place : ℕ
  pub token : Token

abbrev pub spot : ℕ → Token → Spot
spot at t = record { place = at; token = t }

-- the token of a spot, and its place
abbrev pub token_of : Spot → Token
token_of s = s.token

abbrev pub place_of : Spot → ℕ
place_of s = s.place

-- tokens and places side by side
abbrev pub spots_of : List Token → List ℕ → List Spot
spots_of [] ps = []
spots_of (t ∷ ts) [] = []
spots_of (t ∷ ts) (p ∷ ps) = spot p t ∷ spots_of ts ps
