-- Bytes that are less than an envelope.
use Rattle.std.specs.Prelude.{◌≡◌, ◌⊎◌, ℕ, ◌<◌, ◌≤◌, ◌^◌, List, [], ◌∷◌, ◌++◌, length}
use Rattle.frame_code.specs.Codes.{number}

-- the kinds of frames
abbrev pub IsKind : ℕ → Type 0
IsKind kind = (1 ≤ kind) × (kind ≤ 5)

-- a length, and fewer bytes behind it than it says
pub record IsUnfinished (bytes : List ℕ) : Type 0 where
  pub size : ℕ
  pub rest : List ℕ
  pub fits : size < 2 ^ 64
  pub whole : number size ++ rest ≡ bytes
  pub lacks : length rest < size

-- no byte; or a kind, and behind it fewer bytes than a length takes, or fewer than it says
abbrev pub IsFrameFront : List ℕ → Type 0
IsFrameFront [] = Unit {0}
IsFrameFront (kind ∷ bytes) = IsKind kind × ((length bytes < 8) ⊎ IsUnfinished bytes)
