-- What opening a store tells, and what the store has then.
use Rattle.std.specs.Prelude.{◌≡◌, ◌⊎◌, ℕ, ◌≤◌, List, [], ◌∷◌, ◌++◌, length, true, is_some, None, Some}
use Rattle.cdb_outside.specs.Faults.{Rose}
use Rattle.frame_code.specs.Codes.{frame_code}
use Rattle.frame_code.specs.Fronts.{IsFrameFront}
use Rattle.frame_code.specs.declared.frames.Frame.{Frame}
use Rattle.store_log.specs.declared.opens.OpenFault.{OpenFault}
use Rattle.store_log.specs.declared.opens.OpenFault.TheVariants as fault
use Rattle.store_log.specs.declared.standings.Standing.{Standing}
use Rattle.phys_log.specs.declared.entries.Entry.{Entry}
use Rattle.store_log.specs.declared.standings.Standing.TheVariants.{Log, Bad, Foreign}
use Rattle.store_log.specs.Held.{Held, at_first, after, after_all, header, HasFrames, IsUnbegun, StandsFor}
use Rattle.store_log.specs.Holds.{Holds, plain}

-- an adoption is open after each of these frames
abbrev pub AllOpen : Held → List Frame → Type 0
AllOpen h [] = Unit {0}
AllOpen h (f ∷ fs) = (is_some (after h f).adopting ≡ true) × AllOpen (after h f) fs

-- a store with its header: what is left are the frames up to the last one after which no adoption is open
pub record IsTrimmed (node cluster : ℕ) (old new : List ℕ) : Type 0 where
  pub kept : List Frame
  pub gone : List Frame
  pub rest : List ℕ
  pub has : HasFrames node cluster old (kept ++ gone) rest
  pub unfinished : IsFrameFront rest
  pub closed : (after_all at_first kept).adopting ≡ None
  pub opens : AllOpen (after_all at_first kept) gone
  pub left : HasFrames node cluster new kept []

-- what a store has once it is opened: its header, or the frames up to the last one after which no adoption is open
abbrev pub IsOpened : ℕ → ℕ → List ℕ → List ℕ → Type 0
IsOpened node cluster old new = (IsUnbegun old × (new ≡ frame_code (header node cluster))) ⊎ IsTrimmed node cluster old new

-- what the old bytes stand for, the new ones stand for
abbrev pub StandsAlike : ℕ → ℕ → List ℕ → List ℕ → Type 0
StandsAlike node cluster old new = (s : Standing) → StandsFor node cluster old s → StandsFor node cluster new s

-- why a store was not opened
abbrev pub IsOpenFault : OpenFault → ℕ → ℕ → List ℕ → ℕ → ℕ → Type 0
IsOpenFault (fault.StoreFault read) node cluster bytes before now = Rose before now
IsOpenFault fault.Foreign node cluster bytes before now = StandsFor node cluster bytes Foreign
IsOpenFault (fault.Corrupt at) node cluster bytes before now = StandsFor node cluster bytes (Bad at)
IsOpenFault fault.NoMemory node cluster bytes before now = Unit {0}

-- only a call of the store that failed raised its count of faults
abbrev pub IsLater : OpenFault → ℕ → ℕ → Type 0
IsLater (fault.StoreFault read) before now = before ≤ now
IsLater fault.Foreign before now = now ≡ before
IsLater (fault.Corrupt at) before now = now ≡ before
IsLater fault.NoMemory before now = now ≡ before

-- only a call of the store that failed may have changed it
abbrev pub IsUnchanged : OpenFault → List ℕ → List ℕ → Type 0
IsUnchanged (fault.StoreFault read) old new = Unit {0}
IsUnchanged fault.Foreign old new = new ≡ old
IsUnchanged (fault.Corrupt at) old new = new ≡ old
IsUnchanged fault.NoMemory old new = new ≡ old

-- bytes that hold no log alone: the last frame is unfinished, an adoption is open, or the header is not whole
abbrev pub NeedsMending : ℕ → ℕ → List ℕ → Type 0
NeedsMending node cluster bytes = (p a : ℕ) (es : List Entry) → Holds node cluster bytes (plain p a es) → ⊥

-- bytes that stood for a log of that size, and were to be mended
pub record WasUnmended (node cluster : ℕ) (bytes : List ℕ) (size : ℕ) : Type 0 where
  pub promised : ℕ
  pub accepted : ℕ
  pub entries : List Entry
  pub stood : StandsFor node cluster bytes (Log promised accepted entries)
  pub had : size ≡ length entries
  pub mending : NeedsMending node cluster bytes

-- which log a fault tells the size of: none, where no call wrote to the store; else that for which the bytes stood, where they
-- were to be mended
abbrev pub TellsRead : OpenFault → ℕ → ℕ → List ℕ → ℕ → ℕ → Type 0
TellsRead (fault.StoreFault None) node cluster bytes before now = now ≡ before
TellsRead (fault.StoreFault (Some size)) node cluster bytes before now = WasUnmended node cluster bytes size
TellsRead fault.Foreign node cluster bytes before now = Unit {0}
TellsRead (fault.Corrupt at) node cluster bytes before now = Unit {0}
TellsRead fault.NoMemory node cluster bytes before now = Unit {0}

-- a fault of a call that reads tells of no log
abbrev pub IsUnread : OpenFault → Type 0
IsUnread (fault.StoreFault None) = Unit {0}
IsUnread (fault.StoreFault (Some size)) = ⊥
IsUnread fault.Foreign = Unit {0}
IsUnread (fault.Corrupt at) = Unit {0}
IsUnread fault.NoMemory = Unit {0}
