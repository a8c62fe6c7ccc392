-- How far a store is read, and what was found in it.
use Rattle.std.specs.Prelude.{◌≡◌, ℕ, ◌+◌, ◌-◌, ◌<◌, ◌≤◌, List, [], ◌++◌, length, drop, Option, Some, None, is_some, if◌then◌else◌}
use Rattle.std.specs.Io.{StartsWith}
use Rattle.std.specs.List.{flat_map, AllByRecursion}
use Rattle.cdb_outside.specs.Faults.{Rose}
use Rattle.frame_code.specs.Codes.{frame_code}
use Rattle.frame_code.specs.Fronts.{IsFrameFront}
use Rattle.frame_code.specs.Spelled.{IsSpelled}
use Rattle.frame_code.specs.declared.frames.Frame.{Frame}
use Rattle.phys_log.specs.declared.entries.Entry.{Entry}
use Rattle.store_log.specs.declared.finds.Found.{Found}
use Rattle.store_log.specs.declared.opens.OpenFault.{OpenFault}
use Rattle.store_log.specs.declared.opens.OpenFault.TheVariants as fault
use Rattle.store_log.specs.declared.walks.Ended.{Ended}
use Rattle.store_log.specs.declared.walks.Turn.{Turn}
use Rattle.store_log.specs.declared.walks.Turn.TheVariants.{On, Done}
use Rattle.store_log.specs.declared.walks.Reach.{Reach}
use Rattle.store_log.specs.Held.{Held, at_first, AllMay, after_all, HasFrames, IsUnbegun}
use Rattle.store_log.specs.Opens.{AllOpen}
use Rattle.store_log.specs.Steps.{IsWrong}

-- the frames from the header to an offset, what is held after them, and where the last of them ends after which no
-- adoption is open
pub record IsWalked (bytes : List ℕ) (h : Held) (at closed : ℕ) : Type 0 where
  pub all : List Frame
  pub kept : List Frame
  pub gone : List Frame
  pub split : kept ++ gone ≡ all
  pub begun : 27 ≤ length bytes
  pub spelled : AllByRecursion IsSpelled all
  pub rules : AllMay at_first all
  pub whole : flat_map frame_code all ++ drop at bytes ≡ drop 27 bytes
  pub place : 27 + length (flat_map frame_code all) ≡ at
  pub held : after_all at_first all ≡ h
  pub none : (after_all at_first kept).adopting ≡ None
  pub opens : AllOpen (after_all at_first kept) gone
  pub close : 27 + length (flat_map frame_code kept) ≡ closed

-- the window has bytes from the offset on
pub record IsWalk (bytes : List ℕ) (h : Held) (r : Reach) : Type 0 where
  pub walked : IsWalked bytes h r.at r.closed
  pub window : StartsWith (drop r.at bytes) (drop r.used r.window.items)
  pub within : r.used ≤ length r.window.items

-- how much is to be done: bytes to be taken, and bytes to be read
abbrev pub ahead : List ℕ → Reach → ℕ
ahead bytes r = (length bytes - r.at) + (length bytes - (r.at + length (drop r.used r.window.items)))

-- with a frame more of so many bytes, after which an adoption is open or not
abbrev pub further : Option (List Entry) → Reach → ℕ → Reach
further adopting r size = record r {
  at = r.at + size;
  closed = if is_some adopting then r.closed else (r.at + size);
  used = r.used + size;
}

-- all frames are held, and what is behind them is less than an envelope
pub record IsEnded (bytes : List ℕ) (e : Ended) : Type 0 where
  pub at : ℕ
  pub walked : IsWalked bytes e.held at e.closed
  pub unfinished : IsFrameFront (drop at bytes)
  pub end : e.end ≡ length bytes

abbrev pub IsTurn : Turn → List ℕ → ℕ → Type 0
IsTurn (On held next) bytes before = IsWalk bytes held next × (ahead bytes next < before)
IsTurn (Done last) bytes before = IsEnded bytes last

-- the frame at an offset is bad
pub record IsCorrupt (bytes : List ℕ) (at : ℕ) : Type 0 where
  pub held : Held
  pub closed : ℕ
  pub walked : IsWalked bytes held at closed
  pub wrong : IsWrong held (drop at bytes)

-- why frames were not read
abbrev pub IsWalkFault : OpenFault → List ℕ → ℕ → ℕ → Type 0
IsWalkFault (fault.StoreFault None) bytes before now = Rose before now
IsWalkFault (fault.StoreFault (Some size)) bytes before now = ⊥
IsWalkFault fault.Foreign bytes before now = ⊥
IsWalkFault (fault.Corrupt at) bytes before now = IsCorrupt bytes at
IsWalkFault fault.NoMemory bytes before now = Unit {0}

-- why a call that reads the store, or what takes memory, ended
abbrev pub IsCallFault : OpenFault → ℕ → ℕ → Type 0
IsCallFault (fault.StoreFault None) before now = Rose before now
IsCallFault (fault.StoreFault (Some size)) before now = ⊥
IsCallFault fault.Foreign before now = ⊥
IsCallFault (fault.Corrupt at) before now = ⊥
IsCallFault fault.NoMemory before now = Unit {0}

-- a log, and where the last frame ends after which no adoption is open
pub record IsClosing (node cluster : ℕ) (bytes : List ℕ) (p a : ℕ) (es : List Entry) (closed : ℕ) : Type 0 where
  pub kept : List Frame
  pub gone : List Frame
  pub rest : List ℕ
  pub has : HasFrames node cluster bytes (kept ++ gone) rest
  pub unfinished : IsFrameFront rest
  pub none : (after_all at_first kept).adopting ≡ None
  pub opens : AllOpen (after_all at_first kept) gone
  pub close : 27 + length (flat_map frame_code kept) ≡ closed
  pub promised : (after_all at_first (kept ++ gone)).promised ≡ p
  pub accepted : (after_all at_first (kept ++ gone)).accepted ≡ a
  pub entries : (after_all at_first (kept ++ gone)).entries ≡ es

abbrev pub IsFoundTo : Option ℕ → ℕ → ℕ → List ℕ → ℕ → ℕ → List Entry → Type 0
IsFoundTo None node cluster bytes p a es = IsUnbegun bytes × (p ≡ 0) × (a ≡ 0) × (es ≡ [])
IsFoundTo (Some closed) node cluster bytes p a es = IsClosing node cluster bytes p a es closed

pub record IsFound (f : Found) (node cluster : ℕ) (bytes : List ℕ) : Type 0 where
  pub end : f.end ≡ length bytes
  pub to : IsFoundTo f.closed node cluster bytes f.promised f.accepted f.entries
