-- What stands at the front of bytes: a frame, less than an envelope, or neither.
use Rattle.std.specs.Prelude.{◌≡◌, ℕ, List, ◌++◌, length}
use Rattle.frame_code.specs.Codes.{frame_code}
use Rattle.frame_code.specs.Fronts.{IsFrameFront}
use Rattle.frame_code.specs.Spelled.{IsSpelled}
use Rattle.frame_code.specs.declared.frames.Frame.{Frame}
use Rattle.log_format.specs.declared.frames.Reading.{Reading}
use Rattle.log_format.specs.declared.frames.Reading.TheVariants.{Whole, Short, Bad}

-- the bytes begin with the spelling of that frame, which has that size
pub record IsWhole (frame : Frame) (n : ℕ) (bytes : List ℕ) : Type 0 where
  pub rest : List ℕ
  pub spelled : IsSpelled frame
  pub begins : frame_code frame ++ rest ≡ bytes
  pub size : length (frame_code frame) ≡ n

-- the bytes begin with no frame's spelling, and are not less than an envelope
pub record IsBad (bytes : List ℕ) : Type 0 where
  pub no_frame : (frame : Frame) (rest : List ℕ) → IsSpelled frame → frame_code frame ++ rest ≡ bytes → ⊥
  pub no_front : IsFrameFront bytes → ⊥

abbrev pub IsReading : Reading → List ℕ → Type 0
IsReading (Whole frame size) bytes = IsWhole frame size bytes
IsReading Short bytes = IsFrameFront bytes
IsReading Bad bytes = IsBad bytes
