-- What may be kept behind what a store holds, and a store that holds a log.
--
-- Of a store that holds the promise of generation 2 and the acceptance of generation 1, the promise of generation 3 may follow,
-- and the acceptance of generation 2; another promise of generation 2 may not, and would be a bad frame there.
use Rattle.std.specs.Prelude.{◌≡◌, ℕ, List}
use Rattle.std.specs.List.{flat_map, AllByRecursion}
use Rattle.cdb_outside.specs.Parts.{IsFront}
use Rattle.frame_code.specs.Codes.{frame_code}
use Rattle.frame_code.specs.Spelled.{IsSpelled}
use Rattle.frame_code.specs.declared.frames.Frame.{Frame}
use Rattle.phys_log.specs.declared.entries.Entry.{Entry}
use Rattle.store_log.specs.declared.standings.Standing.TheVariants.{Log}
use Rattle.store_log.specs.Held.{Held, AllMay, StandsFor}
use Rattle.store_log.specs.Holds.{Holds}
use Rattle.store_log.specs.Keeps.{Stored}

-- frames that may stand behind those that bytes hold, whoever's store these are
pub record MayFollow (bytes : List ℕ) (frames : List Frame) : Type 0 where
  pub node : ℕ
  pub cluster : ℕ
  pub held : Held
  pub holds : Holds node cluster bytes held
  pub spelled : AllByRecursion IsSpelled frames
  pub may : AllMay held frames

-- the bytes of such frames
pub record AreNextFrames (bytes next : List ℕ) : Type 0 where
  pub frames : List Frame
  pub follow : MayFollow bytes frames
  pub code : next ≡ flat_map frame_code frames

-- a store of a log: what is synced holds it, and what waits is a front of frames that may follow
pub record IsOfLog (store : Stored) : Type 0 where
  pub next : List ℕ
  pub are : AreNextFrames store.synced next
  pub waits : IsFront store.pending next

-- bytes that stand for a log, whoever's store these are
pub record StandForLog (bytes : List ℕ) : Type 0 where
  pub node : ℕ
  pub cluster : ℕ
  pub promised : ℕ
  pub accepted : ℕ
  pub entries : List Entry
  pub stands : StandsFor node cluster bytes (Log promised accepted entries)
