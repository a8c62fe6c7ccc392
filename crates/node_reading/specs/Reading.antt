-- What a store stood for when it was read the first time, and why it was not taken up.
use Rattle.std.specs.Prelude.{◌≡◌, ◌⊎◌, ℕ, ◌≤◌, List, [], ◌∷◌, length, Option, Some}
use Rattle.std.specs.List.{AllByRecursion}
use Rattle.cdb_outside.specs.Faults.{Rose}
use Rattle.cdb_values.specs.Rows.{Rows}
use Rattle.cdb_values.specs.declared.tables.TableDef.{TableDef}
use Rattle.phys_log.specs.Logs.{IsLog, pages_of}
use Rattle.phys_log.specs.declared.entries.Entry.{Entry}
use Rattle.phys_log.specs.declared.entries.Entry.TheVariants as entry
use Rattle.log_replay.specs.Answers.{schema_of}
use Rattle.log_rows.specs.History.{tables_of}
use Rattle.table_store.specs.Stored.{Stands}
use Rattle.sound_log.specs.Bytes.{AreOfBytes}
use Rattle.sound_log.specs.Sound.{IsSound, IsStateOf}
use Rattle.store_log.specs.declared.standings.Standing.TheVariants.{Log, Bad, Foreign}
use Rattle.store_log.specs.Held.{StandsFor}
use Rattle.store_log.specs.declared.opens.OpenFault.{OpenFault}
use Rattle.store_log.specs.declared.opens.OpenFault.TheVariants as fault
use Rattle.kept_log.specs.Kept.{HoldsAny, OverStore, kept}
use Rattle.node_reading.specs.declared.readings.WhyUnread.{WhyUnread}
use Rattle.node_reading.specs.declared.readings.WhyUnread.TheVariants as why

-- a log is sound, its pages stand for these rows, and its rows are of bytes
pub record HasSoundRows (accepted : ℕ) (entries : List Entry) (rows : Rows) : Type 0 where
  pub sound : IsSound accepted entries
  pub state : IsStateOf entries rows
  pub bytes : AreOfBytes entries

-- a transaction began in a generation, or before it
abbrev pub IsBegunBy : ℕ → Entry → Type 0
IsBegunBy accepted (entry.Setup generation schema records) = Unit {0}
IsBegunBy accepted (entry.Commit generation id begin level changes records) = id.began ≤ accepted

-- what a node may come up with for the first time: the accepted generation is not above the promised one, the entries fit each
-- other, they are none or begin with a setup and have pages that stand for these rows, and none began above the accepted
-- generation
pub record MayBegin (promised accepted : ℕ) (entries : List Entry) (rows : Rows) : Type 0 where
  pub below : accepted ≤ promised
  pub logged : IsLog entries
  pub pages : (entries ≡ []) ⊎ ((schema_of entries ≡ Some (tables_of entries)) × Stands (pages_of entries) (tables_of entries) rows)
  pub begun : AllByRecursion (IsBegunBy accepted) entries

-- the store stood for a log that is sound, and holds exactly this
pub record WasRead (old new : OverStore) (promised accepted : ℕ) (rows : Rows) : Type 0 where
  pub entries : List Entry
  pub stood : StandsFor old.node old.cluster old.synced (Log promised accepted entries)
  pub holds : HoldsAny new (kept promised accepted entries ∷ [])
  pub good : HasSoundRows accepted entries rows
  pub may : MayBegin promised accepted entries rows

-- and how long that log is, and which tables it has
pub record WasFound (old new : OverStore) (promised accepted size : ℕ) (tables : Option (List TableDef)) (rows : Rows) : Type 0 where
  pub was : WasRead old new promised accepted rows
  pub had : size ≡ length was.entries
  pub schema : tables ≡ schema_of was.entries

-- the store stood for a log that is not sound
pub record WasUnsound (node cluster : ℕ) (bytes : List ℕ) : Type 0 where
  pub promised : ℕ
  pub accepted : ℕ
  pub entries : List Entry
  pub stood : StandsFor node cluster bytes (Log promised accepted entries)
  pub unsound : IsSound accepted entries → ⊥

-- why nothing was read that a node may come up with: a call of the store failed; its frame at this offset is bad, or its header
-- is another's; its log is not sound; or memory was wanted. The count of faults is as it was, but where a call failed
abbrev pub IsWhyUnread : WhyUnread → ℕ → ℕ → List ℕ → ℕ → ℕ → Type 0
IsWhyUnread why.StoreFault node cluster bytes before now = Rose before now
IsWhyUnread (why.Corrupt at) node cluster bytes before now =
    (StandsFor node cluster bytes (Bad at) ⊎ (StandsFor node cluster bytes Foreign × (at ≡ 0))) × (now ≡ before)
IsWhyUnread why.Unsound node cluster bytes before now = WasUnsound node cluster bytes × (now ≡ before)
IsWhyUnread why.NoMemory node cluster bytes before now = now ≡ before

-- of a store that was not read
abbrev pub unread_for : OpenFault → WhyUnread
unread_for (fault.StoreFault read) = why.StoreFault
unread_for fault.Foreign = why.Corrupt 0
unread_for (fault.Corrupt at) = why.Corrupt at
unread_for fault.NoMemory = why.NoMemory

-- what is told of a log that was read and is not taken up
abbrev pub IsJudged : WhyUnread → ℕ → List Entry → Type 0
IsJudged why.StoreFault accepted entries = ⊥
IsJudged (why.Corrupt at) accepted entries = ⊥
IsJudged why.Unsound accepted entries = IsSound accepted entries → ⊥
IsJudged why.NoMemory accepted entries = Unit {0}
