-- What stands at the front of bytes, as an envelope.
use Rattle.std.specs.Prelude.{◌≡◌, ℕ, ◌<◌, ◌^◌, List, ◌∷◌, ◌++◌, length}
use Rattle.frame_code.specs.Codes.{envelope}
use Rattle.frame_code.specs.Fronts.{IsKind, IsFrameFront}
use Rattle.log_format.specs.declared.frames.Envelope.{Envelope}
use Rattle.log_format.specs.declared.frames.Envelope.TheVariants.{Short, Unknown, Whole}

-- a kind that is no frame's, and whatever stands behind it
pub record HasUnknownKind (bytes : List ℕ) : Type 0 where
  pub kind : ℕ
  pub rest : List ℕ
  pub unknown : IsKind kind → ⊥
  pub whole : kind ∷ rest ≡ bytes

-- the envelope of that kind and payload, and whatever stands behind it
pub record HasEnvelope (kind : ℕ) (payload : List ℕ) (bytes : List ℕ) : Type 0 where
  pub rest : List ℕ
  pub known : IsKind kind
  pub fits : length payload < 2 ^ 64
  pub whole : envelope kind payload ++ rest ≡ bytes

abbrev pub IsEnvelope : Envelope → List ℕ → Type 0
IsEnvelope Short bytes = IsFrameFront bytes
IsEnvelope Unknown bytes = HasUnknownKind bytes
IsEnvelope (Whole kind payload) bytes = HasEnvelope kind payload.now bytes
