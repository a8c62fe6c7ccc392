-- What the bytes of a store hold where no frame is unfinished.
use Rattle.std.specs.Prelude.{◌≡◌, ℕ, List, [], None}
use Rattle.frame_code.specs.declared.frames.Frame.{Frame}
use Rattle.phys_log.specs.declared.entries.Entry.{Entry}
use Rattle.store_log.specs.Held.{Held, at_first, after_all, HasFrames}

-- a header and whole frames with nothing behind them, and what is held after them
pub record Holds (node cluster : ℕ) (bytes : List ℕ) (held : Held) : Type 0 where
  pub frames : List Frame
  pub has : HasFrames node cluster bytes frames []
  pub is : after_all at_first frames ≡ held

-- a log and its generations, with no adoption open
abbrev pub plain : ℕ → ℕ → List Entry → Held
plain p a es = record { promised = p; accepted = a; entries = es; adopting = None }
