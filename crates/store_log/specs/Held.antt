-- What a store stands for.
use Rattle.std.specs.Prelude.{◌≡◌, ◌⊎◌, ℕ, ◌+◌, ◌<◌, ◌≤◌, List, [], ◌∷◌, ◌++◌, length, take, Option, Some, None}
use Rattle.std.specs.List.{flat_map, AllByRecursion}
use Rattle.frame_code.specs.Codes.{frame_code}
use Rattle.frame_code.specs.Fronts.{IsFrameFront}
use Rattle.frame_code.specs.Spelled.{IsSpelled}
use Rattle.frame_code.specs.declared.frames.Frame.{Frame}
use Rattle.frame_code.specs.declared.frames.Frame.TheVariants as frame
use Rattle.phys_log.specs.Logs.{Fits}
use Rattle.phys_log.specs.declared.entries.Entry.{Entry}
use Rattle.phys_log.specs.declared.entries.Entry.TheVariants.{Setup, Commit}
use Rattle.store_log.specs.declared.standings.Standing.{Standing}
use Rattle.store_log.specs.declared.standings.Standing.TheVariants.{Log, Bad, Foreign}

-- what the frames so far stand for, with the entries of an open adoption
pub record Held : Type 0 where
  pub promised : ℕ
  pub accepted : ℕ
  pub entries : List Entry
  pub adopting : Option (List Entry)

abbrev pub at_first : Held
at_first = record { promised = 0; accepted = 0; entries = []; adopting = None }

abbrev pub generation_of : Entry → ℕ
generation_of (Setup generation schema records) = generation
generation_of (Commit generation id begin level changes records) = generation

-- an entry may be added: to an open adoption, or to the log, where it is of the accepted generation
abbrev pub MayAdd : ℕ → List Entry → Entry → Option (List Entry) → Type 0
MayAdd accepted entries e (Some adopted) = Fits adopted e
MayAdd accepted entries e None = (generation_of e ≡ accepted) × Fits entries e

-- a frame may stand there
abbrev pub May : Held → Frame → Type 0
May h (frame.Header version node cluster) = ⊥
May h (frame.Promise generation) = h.promised < generation
May h (frame.Accept generation) = (generation ≡ h.promised) × (h.accepted < generation)
May h (frame.Entry e) = MayAdd h.accepted h.entries e h.adopting
May h (frame.Cut n) = n ≤ length h.entries

abbrev pub held_with_entry : ℕ → ℕ → List Entry → Entry → Option (List Entry) → Held
held_with_entry promised accepted entries e (Some adopted) =
    record { promised = promised; accepted = accepted; entries = entries; adopting = Some (adopted ++ e ∷ []) }
held_with_entry promised accepted entries e None =
    record { promised = promised; accepted = accepted; entries = entries ++ e ∷ []; adopting = None }

-- the log that is accepted: that of the open adoption, or the one before
abbrev pub adopted_or : List Entry → Option (List Entry) → List Entry
adopted_or entries (Some adopted) = adopted
adopted_or entries None = entries

-- what is held after a frame
abbrev pub after : Held → Frame → Held
after h (frame.Header version node cluster) = h
after h (frame.Promise generation) = record { promised = generation; accepted = h.accepted; entries = h.entries; adopting = None }
after h (frame.Accept generation) =
    record { promised = h.promised; accepted = generation; entries = adopted_or h.entries h.adopting; adopting = None }
after h (frame.Entry e) = held_with_entry h.promised h.accepted h.entries e h.adopting
after h (frame.Cut n) =
    record { promised = h.promised; accepted = h.accepted; entries = h.entries; adopting = Some (take n h.entries) }

-- each of these frames may stand there, and what is held after all of them
abbrev pub AllMay : Held → List Frame → Type 0
AllMay h [] = Unit {0}
AllMay h (f ∷ fs) = May h f × AllMay (after h f) fs

abbrev pub after_all : Held → List Frame → Held
after_all h [] = h
after_all h (f ∷ fs) = after_all (after h f) fs

-- the header of a store, in the version that is written
abbrev pub header : ℕ → ℕ → Frame
header node cluster = frame.Header 1 node cluster

-- fewer bytes than a header that are a front of one, of whatever version, node and cluster
pub record IsUnbegun (bytes : List ℕ) : Type 0 where
  pub version : ℕ
  pub node : ℕ
  pub cluster : ℕ
  pub more : List ℕ
  pub spelled : IsSpelled (frame.Header version node cluster)
  pub front : bytes ++ more ≡ frame_code (frame.Header version node cluster)
  pub short : length bytes < 27

-- a header and frames that may follow each other, and what is behind them
pub record HasFrames (node cluster : ℕ) (bytes : List ℕ) (fs : List Frame) (rest : List ℕ) : Type 0 where
  pub spelled : AllByRecursion IsSpelled fs
  pub rules : AllMay at_first fs
  pub whole : frame_code (header node cluster) ++ (flat_map frame_code fs ++ rest) ≡ bytes

-- bytes that stand for a log: less than an envelope is behind the last frame
pub record IsLogOf (node cluster : ℕ) (bytes : List ℕ) (p a : ℕ) (es : List Entry) : Type 0 where
  pub frames : List Frame
  pub rest : List ℕ
  pub held : HasFrames node cluster bytes frames rest
  pub unfinished : IsFrameFront rest
  pub promised : (after_all at_first frames).promised ≡ p
  pub accepted : (after_all at_first frames).accepted ≡ a
  pub entries : (after_all at_first frames).entries ≡ es

-- bytes that begin with no header, and are no front of one
pub record IsBadFirst (bytes : List ℕ) : Type 0 where
  pub no_header : (version node cluster : ℕ) (rest : List ℕ) → IsSpelled (frame.Header version node cluster)
      → frame_code (frame.Header version node cluster) ++ rest ≡ bytes → ⊥
  pub begun : IsUnbegun bytes → ⊥

-- a later frame is bad: what is behind the frames before it is not less than an envelope, and begins with no frame that
-- may stand there
pub record IsBadLater (node cluster : ℕ) (bytes : List ℕ) (offset : ℕ) : Type 0 where
  pub frames : List Frame
  pub rest : List ℕ
  pub held : HasFrames node cluster bytes frames rest
  pub finished : IsFrameFront rest → ⊥
  pub bad : (f : Frame) (behind : List ℕ) → IsSpelled f → frame_code f ++ behind ≡ rest → May (after_all at_first frames) f → ⊥
  pub place : length (frame_code (header node cluster)) + length (flat_map frame_code frames) ≡ offset

-- the header is another's
pub record IsForeign (node cluster : ℕ) (bytes : List ℕ) : Type 0 where
  pub version : ℕ
  pub other_node : ℕ
  pub other_cluster : ℕ
  pub rest : List ℕ
  pub spelled : IsSpelled (frame.Header version other_node other_cluster)
  pub whole : frame_code (frame.Header version other_node other_cluster) ++ rest ≡ bytes
  pub other : frame.Header version other_node other_cluster ≡ header node cluster → ⊥

-- what the bytes of a store stand for, to a node of a cluster
abbrev pub StandsFor : ℕ → ℕ → List ℕ → Standing → Type 0
StandsFor node cluster bytes (Log p a es) =
    (IsUnbegun bytes × (p ≡ 0) × (a ≡ 0) × (es ≡ [])) ⊎ IsLogOf node cluster bytes p a es
StandsFor node cluster bytes (Bad at) = (IsBadFirst bytes × (at ≡ 0)) ⊎ IsBadLater node cluster bytes at
StandsFor node cluster bytes Foreign = IsForeign node cluster bytes
