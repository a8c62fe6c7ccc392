-- What one frame more makes of what is held.
use Rattle.std.specs.Prelude.{◌≡◌, ℕ, ◌+◌, List, [], ◌∷◌, ◌++◌, length, Result, Ok, Err}
use Rattle.std.specs.List.{flat_map}
use Rattle.frame_code.specs.Codes.{frame_code}
use Rattle.frame_code.specs.Fronts.{IsFrameFront}
use Rattle.frame_code.specs.Spelled.{IsSpelled}
use Rattle.frame_code.specs.declared.frames.Frame.{Frame}
use Rattle.log_replay.specs.declared.logs.AppendFault.{AppendFault}
use Rattle.log_replay.specs.declared.logs.AppendFault.TheVariants as append
use Rattle.store_log.specs.declared.held_logs.TakeFault.{TakeFault}
use Rattle.store_log.specs.declared.held_logs.TakeFault.TheVariants.{Misplaced, NoMemory}
use Rattle.store_log.specs.declared.steps.Step.{Step}
use Rattle.store_log.specs.declared.steps.Step.TheVariants.{More, End, Wrong}
use Rattle.store_log.specs.Held.{Held, at_first, May, after, after_all, header, HasFrames}

-- what each answer tells of whether a frame may stand there: `Misplaced` comes exactly where it may not
abbrev pub TellsMay : {T : Type 0} → Result T TakeFault → Type 0 → Type 0
TellsMay (Ok x) may = may
TellsMay (Err Misplaced) may = may → ⊥
TellsMay (Err NoMemory) may = Unit {0}

-- what an entry that was not appended tells of its frame
abbrev pub told : AppendFault → TakeFault
told (append.Unfit entry) = Misplaced
told (append.NoMemory entry) = NoMemory

-- a frame that may stand there is at the front of the bytes
pub record IsMore (before now : Held) (n : ℕ) (bytes : List ℕ) : Type 0 where
  pub frame : Frame
  pub behind : List ℕ
  pub spelled : IsSpelled frame
  pub begins : frame_code frame ++ behind ≡ bytes
  pub may : May before frame
  pub held : now ≡ after before frame
  pub size : length (frame_code frame) ≡ n

-- the bytes are not less than an envelope, and begin with no frame that may stand there
pub record IsWrong (held : Held) (bytes : List ℕ) : Type 0 where
  pub finished : IsFrameFront bytes → ⊥
  pub bad : (f : Frame) (behind : List ℕ) → IsSpelled f → frame_code f ++ behind ≡ bytes → May held f → ⊥

abbrev pub IsStep : Step → Held → List ℕ → Type 0
IsStep (More now size) before bytes = IsMore before now size bytes
IsStep (End now) before bytes = IsFrameFront bytes × (now ≡ before)
IsStep Wrong before bytes = IsWrong before bytes

-- the frames at the front of a store were read: what is held after them, and what is behind them, from an offset on
pub record IsReadTo (node cluster : ℕ) (bytes : List ℕ) (h : Held) (rest : List ℕ) (offset : ℕ) : Type 0 where
  pub frames : List Frame
  pub read : HasFrames node cluster bytes frames rest
  pub held : after_all at_first frames ≡ h
  pub place : length (frame_code (header node cluster)) + length (flat_map frame_code frames) ≡ offset
