-- What stands at the front of a store.
use Rattle.std.specs.Prelude.{◌≡◌, ℕ, ◌==◌, if◌then◌else◌, List, [], ◌∷◌, Bool, true, false}
use Rattle.frame_code.specs.declared.frames.Frame.{Frame}
use Rattle.frame_code.specs.declared.frames.Frame.TheVariants as frame
use Rattle.store_log.specs.declared.readings.First.{First}
use Rattle.store_log.specs.declared.readings.First.TheVariants.{Ours, Foreign, Unbegun, Bad}
use Rattle.store_log.specs.Held.{header, IsUnbegun, HasFrames, IsBadFirst, IsForeign}

abbrev pub IsFirst : First → ℕ → ℕ → List ℕ → Type 0
IsFirst Ours node cluster bytes = (rest : List ℕ) × HasFrames node cluster bytes [] rest
IsFirst Foreign node cluster bytes = IsForeign node cluster bytes
IsFirst Unbegun node cluster bytes = IsUnbegun bytes
IsFirst Bad node cluster bytes = IsBadFirst bytes

-- a header of another version, node or cluster
abbrev pub IsOther : Frame → ℕ → ℕ → Type 0
IsOther (frame.Header v n c) node cluster = frame.Header v n c ≡ header node cluster → ⊥
IsOther (frame.Promise g) node cluster = ⊥
IsOther (frame.Accept g) node cluster = ⊥
IsOther (frame.Entry e) node cluster = ⊥
IsOther (frame.Cut n) node cluster = ⊥

-- whose header a frame is, and that it is none
abbrev pub IsWhose : First → Frame → ℕ → ℕ → Type 0
IsWhose Ours f node cluster = f ≡ header node cluster
IsWhose Foreign f node cluster = IsOther f node cluster
IsWhose Unbegun f node cluster = ⊥
IsWhose Bad f node cluster = (v n c : ℕ) → f ≡ frame.Header v n c → ⊥

-- two lists agree as far as both go
abbrev pub agrees : List ℕ → List ℕ → Bool
agrees [] ys = true
agrees (x ∷ xs) [] = true
agrees (x ∷ xs) (y ∷ ys) = if x == y then agrees xs ys else false
