-- What all of some bytes stand for.
use Rattle.std.specs.Prelude.{◌≡◌, ℕ, List}
use Rattle.frame_code.specs.Codes.{payload, kind_of}
use Rattle.frame_code.specs.Spelled.{HasPayload}
use Rattle.frame_code.specs.declared.frames.Frame.{Frame}

-- the bytes are the spelling of that value; or of none
abbrev pub IsAll : {A : Type 0} → (A → List ℕ) → (A → Type 0) → A → List ℕ → Type 0
IsAll code Has v bytes = Has v × (code v ≡ bytes)

abbrev pub IsNone : {A : Type 0} → (A → List ℕ) → (A → Type 0) → List ℕ → Type 0
IsNone {A = A} code Has bytes = (v : A) → Has v → code v ≡ bytes → ⊥

-- the bytes are the payload of that frame, which is of that kind; or of no frame of that kind
pub record IsPayload (frame : Frame) (k : ℕ) (xs : List ℕ) : Type 0 where
  pub parts : HasPayload frame
  pub kind : kind_of frame ≡ k
  pub bytes : payload frame ≡ xs

abbrev pub IsNoPayload : ℕ → List ℕ → Type 0
IsNoPayload kind bytes = (frame : Frame) → IsPayload frame kind bytes → ⊥
