-- What stores were found to be, in the words of reports.
--
-- A report knows of a log the lines of its entries. Of a store that failed while it was read nothing is known here: what its bytes stand
-- for, and whether its log is sound, may be anything, as nothing is compared with it.
use Rattle.std.specs.Prelude.{◌≡◌, ◌⊎◌, ℕ, ◌+◌, ◌^◌, ◌<◌, ◌≤◌, Bool, List, [], ◌∷◌, length, Some, None}
use Rattle.cdb_outside.specs.Faults.{Rose, last_count}
use Rattle.cdb_values.specs.declared.tables.TableDef.{TableDef}
use Rattle.kept_log.specs.Kept.{OverStore}
use Rattle.log_rows.specs.History.{tables_of}
use Rattle.node_reading.specs.Reading.{WasUnsound}
use Rattle.phys_log.specs.declared.entries.Entry.{Entry}
use Rattle.phys_log.specs.declared.entries.Entry.TheVariants as entry
use Rattle.play_order.specs.Openings.{Finding}
use Rattle.play_order.specs.Openings.Finding.{BadFrame, FailedRead, NotSound, WholeLog}
use Rattle.play_order.specs.Peers.{Holding}
use Rattle.report_text.specs.declared.reports.EntryLine.{EntryLine}
use Rattle.report_text.specs.declared.reports.EntryLine.TheVariants as line
use Rattle.sound_log.specs.Sound.{IsSound}
use Rattle.store_log.specs.declared.standings.Standing.TheVariants.{Log}
use Rattle.store_log.specs.Held.{StandsFor}
use Rattle.node_openings.specs.declared.found.ReadLog.{ReadLog}
use Rattle.node_openings.specs.declared.found.StoreFound.{StoreFound}
use Rattle.node_openings.specs.declared.found.StoreFound.TheVariants as store
use Rattle.node_openings.specs.Found.{IsBadAt}

-- the lines of entries, from a position on
abbrev pub told_entry : ℕ → Entry → EntryLine
told_entry position (entry.Setup generation schema records) = line.Setup position
told_entry position (entry.Commit generation id begin level changes records) = line.Commit position id.session id.txn begin level

abbrev pub told_entries : ℕ → List Entry → List EntryLine
told_entries position [] = []
told_entries position (e ∷ es) = told_entry position e ∷ told_entries (position + 1) es

-- the bytes of a store stood for a sound log, which a report tells so, with these tables
pub record StoodForWhole (old : OverStore) (has : Holding) (tables : List TableDef) : Type 0 where
  pub entries : List Entry
  pub stood : StandsFor old.node old.cluster old.synced (Log has.promised has.accepted entries)
  pub sound : IsSound has.accepted entries
  pub told : has.log ≡ told_entries 1 entries
  pub tables_are : tables ≡ tables_of entries

-- what a store was found to be, by its bytes and its count of faults
abbrev pub IsFinding : Finding → OverStore → OverStore → Type 0
IsFinding (FailedRead has sound) old new = Rose old.faults new.faults
IsFinding (BadFrame at) old new = IsBadAt old at × (new.faults ≡ old.faults)
IsFinding NotSound old new = WasUnsound old.node old.cluster old.synced × (new.faults ≡ old.faults)
IsFinding (WholeLog has tables) old new = StoodForWhole old has tables × (new.faults ≡ old.faults)

pub data AreFindings : List Finding → List OverStore → List OverStore → Type 0 where
  findings_none : AreFindings [] [] []
  findings_more : {f : Finding} {o n : OverStore} {fs : List Finding} {os ns : List OverStore} → IsFinding f o n → AreFindings fs os ns → AreFindings (f ∷ fs) (o ∷ os) (n ∷ ns)

-- what was read of a log is so much of what a report tells of it
pub record IsSeenLog (r : ReadLog) (has : Holding) (tables : List TableDef) : Type 0 where
  pub promise : has.promised ≡ r.promised
  pub acceptance : has.accepted ≡ r.accepted
  pub had : length has.log ≡ r.length
  pub tables_are : ((r.tables ≡ None) × (r.length ≡ 0)) ⊎ ((r.tables ≡ Some tables) × (1 ≤ r.length))

-- so what was found is this to a report; of a store that failed it is anything
pub data IsSeenAs : StoreFound → Finding → Type 0 where
  seen_failed : {has : Holding} {sound : Bool} → IsSeenAs store.Failed (FailedRead has sound)
  seen_bad : {at : ℕ} → IsSeenAs (store.Bad at) (BadFrame at)
  seen_unsound : IsSeenAs store.NotSound NotSound
  seen_whole : {r : ReadLog} {has : Holding} {tables : List TableDef} → IsSeenLog r has tables → IsSeenAs (store.Whole r) (WholeLog has tables)

pub data AreSeenAs : List StoreFound → List Finding → Type 0 where
  seen_none : AreSeenAs [] []
  seen_more : {s : StoreFound} {f : Finding} {ss : List StoreFound} {fs : List Finding} → IsSeenAs s f → AreSeenAs ss fs → AreSeenAs (s ∷ ss) (f ∷ fs)

-- numbers that a store can tell: a node and a cluster that a header has, and a count of faults that may rise
pub data AreTold : List OverStore → Type 0 where
  told_none : AreTold []
  told_more : {o : OverStore} {os : List OverStore} → o.node < 256 → o.cluster < 2 ^ 128 → o.faults < last_count → AreTold os → AreTold (o ∷ os)
