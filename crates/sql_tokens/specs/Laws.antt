-- What holds of each list of tokens, whatever the text.
use Rattle.std.specs.Prelude.{◌≡◌, ℕ, ◌+◌, ◌<◌, ◌≤◌, List, [], ◌∷◌, length}
use Rattle.sql_tokens.specs.Values.{largest}
use Rattle.sql_tokens.specs.Spot.{Spot}
use Rattle.sql_tokens.specs.declared.kinds.Token.{Token}
use Rattle.sql_tokens.specs.declared.kinds.Token.TheVariants as token

-- the places rise, from the first one allowed on, and each is below the end
abbrev pub ArePlacesIn : ℕ → ℕ → List Spot → Type 0
ArePlacesIn first end [] = Unit {0}
ArePlacesIn first end (s ∷ ss) = (first ≤ s.place) × (s.place < end) × ArePlacesIn (s.place + 1) end ss

-- no token but the last is `Unknown`
abbrev pub IsUnknownOnlyLast : List Spot → Type 0
IsUnknownOnlyLast [] = Unit {0}
IsUnknownOnlyLast (s ∷ []) = Unit {0}
IsUnknownOnlyLast (s ∷ next ∷ ss) = (s.token ≡ token.Unknown → ⊥) × IsUnknownOnlyLast (next ∷ ss)

-- a name has a byte, and a number is not too large
abbrev pub IsInBounds : Token → Type 0
IsInBounds (token.Name n) = 0 < length n
IsInBounds (token.Number n) = n ≤ largest
IsInBounds (token.Keyword k) = Unit {0}
IsInBounds (token.Text cs) = Unit {0}
IsInBounds (token.Blob bs) = Unit {0}
IsInBounds (token.Sign s) = Unit {0}
IsInBounds token.Unknown = Unit {0}

-- and so for each token of the list
abbrev pub AreInBounds : List Spot → Type 0
AreInBounds [] = Unit {0}
AreInBounds (s ∷ ss) = IsInBounds s.token × AreInBounds ss
