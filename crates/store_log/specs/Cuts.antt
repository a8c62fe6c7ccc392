-- What stands where an append was cut off, and where an open adoption is.
use Rattle.std.specs.Prelude.{◌≡◌, ℕ, List, ◌++◌, None}
use Rattle.frame_code.specs.declared.frames.Frame.{Frame}
use Rattle.store_log.specs.Held.{Held, after_all, IsLogOf}

-- the bytes stand for what is held after some of these frames, from the first on
pub record StandsAfter (node cluster : ℕ) (bytes : List ℕ) (before : Held) (gs : List Frame) : Type 0 where
  pub some : List Frame
  pub others : List Frame
  pub split : some ++ others ≡ gs
  pub stands : IsLogOf node cluster bytes (after_all before some).promised (after_all before some).accepted (after_all before some).entries

-- the same generations and the same log, whatever adoption is open
pub record HoldSameLog (h k : Held) : Type 0 where
  pub promised : h.promised ≡ k.promised
  pub accepted : h.accepted ≡ k.accepted
  pub entries : h.entries ≡ k.entries

-- some of these frames, from the first on, after which no adoption is open, and after which the same log is held
pub record IsSettled (before : Held) (fs : List Frame) : Type 0 where
  pub kept : List Frame
  pub gone : List Frame
  pub split : kept ++ gone ≡ fs
  pub closed : (after_all before kept).adopting ≡ None
  pub same : HoldSameLog (after_all before kept) (after_all before fs)
