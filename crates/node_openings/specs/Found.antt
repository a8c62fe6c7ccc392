-- What stores were found to be, and what is left of their logs.
use Rattle.std.specs.Prelude.{◌≡◌, ◌⊎◌, ℕ, ◌+◌, List, [], ◌∷◌, false}
use Rattle.cdb_outside.specs.Faults.{Rose}
use Rattle.kept_log.specs.Kept.{OverStore, StandsStill, stopped_from, unread_over}
use Rattle.node_reading.specs.Reading.{WasFound, WasUnsound}
use Rattle.node_reading.specs.declared.readings.Found.{Found}
use Rattle.store_log.specs.declared.standings.Standing.TheVariants as standing
use Rattle.store_log.specs.Held.{StandsFor}
use Rattle.node_openings.specs.declared.found.ReadLog.{ReadLog}
use Rattle.node_openings.specs.declared.found.StoreFound.{StoreFound}
use Rattle.node_openings.specs.declared.found.StoreFound.TheVariants as store

-- the logs over stores of the nodes from one on, which were not read yet
abbrev pub unread_from : {D : Type 0} → (D → List ℕ) → (D → ℕ) → ℕ → ℕ → List D → List OverStore
unread_from synced faults cluster node [] = []
unread_from synced faults cluster node (d ∷ ds) = unread_over node cluster (synced d) (faults d) ∷ unread_from synced faults cluster (node + 1) ds

-- each log is stopped
abbrev pub AreStopped : List OverStore → Type 0
AreStopped [] = Unit {0}
AreStopped (o ∷ os) = (o.is_open ≡ false) × AreStopped os

-- a log of this node whose store was not opened: it is stopped, without an entry, and promised and accepted nothing
pub record IsUnopened (k : ℕ) (o : OverStore) : Type 0 where
  pub node : o.node ≡ k
  pub promise : o.promised ≡ 0
  pub acceptance : o.accepted ≡ 0
  pub none : o.entries ≡ []
  pub shut : o.is_open ≡ false

pub data AreUnopened : ℕ → List OverStore → Type 0 where
  unopened_none : {k : ℕ} → AreUnopened k []
  unopened_more : {k : ℕ} {o : OverStore} {os : List OverStore} → IsUnopened k o → AreUnopened (k + 1) os → AreUnopened k (o ∷ os)

-- the bytes of a store have a bad frame at a place, or another's header, and the place is 0
abbrev pub IsBadAt : OverStore → ℕ → Type 0
IsBadAt o at = StandsFor o.node o.cluster o.synced (standing.Bad at) ⊎ (StandsFor o.node o.cluster o.synced standing.Foreign × (at ≡ 0))

-- a store was found to be this: a call of it failed; or none did, and a frame of it is bad, its log is not sound, or it is
abbrev pub IsFoundAs : StoreFound → OverStore → OverStore → Type 0
IsFoundAs store.Failed old new = Rose old.faults new.faults
IsFoundAs (store.Bad at) old new = IsBadAt old at × (new.faults ≡ old.faults)
IsFoundAs store.NotSound old new = WasUnsound old.node old.cluster old.synced × (new.faults ≡ old.faults)
IsFoundAs (store.Whole r) old new = WasFound old new r.promised r.accepted r.length r.tables r.rows.value × (new.faults ≡ old.faults)

-- so each of them, in order
pub data AreFound : List StoreFound → List OverStore → List OverStore → Type 0 where
  found_none : AreFound [] [] []
  found_more : {f : StoreFound} {o n : OverStore} {fs : List StoreFound} {os ns : List OverStore} → IsFoundAs f o n → AreFound fs os ns → AreFound (f ∷ fs) (o ∷ os) (n ∷ ns)

-- a log is stopped still, as it was, and its store stands for what it stood for
pub record IsStill (old new : OverStore) : Type 0 where
  pub same : new ≡ stopped_from old new.synced new.faults
  pub still : StandsStill old.node old.cluster old.synced new.synced

pub data AreStill : List OverStore → List OverStore → Type 0 where
  still_none : AreStill [] []
  still_more : {o n : OverStore} {os ns : List OverStore} → IsStill o n → AreStill os ns → AreStill (o ∷ os) (n ∷ ns)

-- what is told of a log that was read, without the rows themselves
pub record IsReadOf (f : Found) (r : ReadLog) : Type 0 where
  pub promise : r.promised ≡ f.promised
  pub acceptance : r.accepted ≡ f.accepted
  pub had : r.length ≡ f.length
  pub tables_are : r.tables ≡ f.tables
  pub rows_are : r.rows.value ≡ f.state
