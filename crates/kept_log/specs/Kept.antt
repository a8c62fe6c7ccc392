-- A node's log over its store, open or stopped.
use Rattle.std.specs.Prelude.{◌≡◌, ◌⊎◌, ℕ, Bool, true, false, List, [], ◌∷◌}
use Rattle.cdb_outside.specs.Faults.{Rose}
use Rattle.node_log.specs.Logged.{Logged}
use Rattle.phys_log.specs.declared.entries.Entry.{Entry}
use Rattle.store_log.specs.declared.standings.Standing.{Standing}
use Rattle.store_log.specs.declared.standings.Standing.TheVariants.{Log}
use Rattle.store_log.specs.Held.{StandsFor}
use Rattle.stopped_log.specs.Stopped.{Stopped}
use Rattle.kept_log.specs.declared.places.Place.{Place}
use Rattle.kept_log.specs.declared.places.Place.TheVariants as place

-- what a store may hold: a promise, an acceptance and a log
pub record Kept : Type 0 where
  pub promised : ℕ
  pub accepted : ℕ
  pub entries : List Entry

abbrev pub kept : ℕ → ℕ → List Entry → Kept
kept p a es = record { promised = p; accepted = a; entries = es }

-- whose log it is, its generations and entries, whether it is open, and the synced bytes and the count of faults of its store. A
-- log that is stopped is seen as the last call left it
pub record OverStore : Type 0 where
  pub node : ℕ
  pub cluster : ℕ
  pub promised : ℕ
  pub accepted : ℕ
  pub entries : List Entry
  pub is_open : Bool
  pub synced : List ℕ
  pub faults : ℕ

abbrev pub opened_over : Logged → OverStore
opened_over l = record {
  node = l.node;
  cluster = l.cluster;
  promised = l.promised;
  accepted = l.accepted;
  entries = l.entries;
  is_open = true;
  synced = l.store.synced;
  faults = l.store.faults;
}

abbrev pub stopped_over : ℕ → ℕ → List Entry → Stopped → OverStore
stopped_over p a es s = record {
  node = s.node;
  cluster = s.cluster;
  promised = p;
  accepted = a;
  entries = es;
  is_open = false;
  synced = s.synced;
  faults = s.faults;
}

abbrev pub over_of : {D : Type 0} → Place D → OverStore
over_of (place.Open l) = opened_over l
over_of (place.Stopped s) = stopped_over s.promised s.accepted s.log s.store
over_of place.Moved = record { node = 0; cluster = 0; promised = 0; accepted = 0; entries = []; is_open = false; synced = []; faults = 0 }

-- an open log has not failed
abbrev pub IsPlaced : {D : Type 0} → Place D → Type 0
IsPlaced (place.Open l) = l.failed ≡ false
IsPlaced (place.Stopped s) = Unit {0}
IsPlaced place.Moved = ⊥

-- what it has
abbrev pub kept_by : OverStore → Kept
kept_by o = kept o.promised o.accepted o.entries

-- the bytes of a node's store stand for one of these
abbrev pub StandForAny : ℕ → ℕ → List ℕ → List Kept → Type 0
StandForAny node cluster bytes [] = ⊥
StandForAny node cluster bytes (k ∷ ks) = StandsFor node cluster bytes (Log k.promised k.accepted k.entries) ⊎ StandForAny node cluster bytes ks

abbrev pub HoldsAny : OverStore → List Kept → Type 0
HoldsAny o ks = ∥ StandForAny o.node o.cluster o.synced ks ∥₁

-- whatever the bytes of a store stood for, they stand for still
abbrev pub StandsStill : ℕ → ℕ → List ℕ → List ℕ → Type 0
StandsStill node cluster old new = (s : Standing) → StandsFor node cluster old s → ∥ StandsFor node cluster new s ∥₁

-- it is one of these
abbrev pub IsAny : Kept → List Kept → Type 0
IsAny k [] = ⊥
IsAny k (j ∷ js) = (j ≡ k) ⊎ IsAny k js

-- it was stopped by a call of the store: all is as it was but the store
abbrev pub stopped_from : OverStore → List ℕ → ℕ → OverStore
stopped_from o synced faults = record o { is_open = false; synced = synced; faults = faults }

-- a log whose store was not read yet: it has no entry, and promised and accepted nothing
abbrev pub unread_over : ℕ → ℕ → List ℕ → ℕ → OverStore
unread_over node cluster synced faults = record {
  node = node;
  cluster = cluster;
  promised = 0;
  accepted = 0;
  entries = [];
  is_open = false;
  synced = synced;
  faults = faults;
}

-- a call whose store failed: the log is stopped, and the store holds one of these
pub record Fails (old new : OverStore) (ks : List Kept) : Type 0 where
  pub stopped : new ≡ stopped_from old new.synced new.faults
  pub rose : Rose old.faults new.faults
  pub holds : HoldsAny new ks
