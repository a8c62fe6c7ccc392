-- Why a node is not up, in the order in which the causes are looked for.
use Rattle.std.specs.Prelude.{◌≡◌, ◌⊎◌, ℕ, ◌≤◌, List, length, Some, None}
use Rattle.cdb_outside.specs.Faults.{Rose}
use Rattle.cdb_values.specs.declared.tables.TableDef.{TableDef}
use Rattle.log_rows.specs.History.{tables_of}
use Rattle.phys_log.specs.declared.entries.Entry.{Entry}
use Rattle.sound_log.specs.Sound.{IsSound}
use Rattle.store_log.specs.declared.standings.Standing.TheVariants.{Log, Bad, Foreign}
use Rattle.store_log.specs.declared.opens.OpenFault.{OpenFault}
use Rattle.store_log.specs.declared.opens.OpenFault.TheVariants as fault
use Rattle.store_log.specs.Held.{StandsFor}
use Rattle.store_log.specs.Opens.{WasUnmended}
use Rattle.node_log.specs.Logged.{Logged}
use Rattle.node_opening.specs.declared.up.WhyNotUp.{WhyNotUp}
use Rattle.node_opening.specs.declared.up.WhyNotUp.TheVariants as why
use Rattle.node_opening.specs.Goods.{IsGood, StandsForGood}
use Rattle.node_opening.specs.Left.{StandsPartway}
use Rattle.node_opening.specs.Tables.{IsDifference}

-- a count of faults rose up to some call of the store, and did not fall behind it
pub record HasRisen (before now : ℕ) : Type 0 where
  pub told : ℕ
  pub rose : Rose before told
  pub later : told ≤ now

-- the length of the log that the store stood for, which is sound and has the given tables
pub record WasRead (node cluster : ℕ) (bytes : List ℕ) (given : List TableDef) (size : ℕ) : Type 0 where
  pub promised : ℕ
  pub accepted : ℕ
  pub entries : List Entry
  pub stood : StandsForGood node cluster bytes given promised accepted entries
  pub had : size ≡ length entries

-- the store stood for a log that is not sound
pub record WasUnsound (node cluster : ℕ) (bytes : List ℕ) : Type 0 where
  pub promised : ℕ
  pub accepted : ℕ
  pub entries : List Entry
  pub stood : StandsFor node cluster bytes (Log promised accepted entries)
  pub unsound : IsSound accepted entries → ⊥

-- a sound log with entries has other tables
pub record IsOther (a : ℕ) (es : List Entry) (given : List TableDef) (place : ℕ) : Type 0 where
  pub sound : IsSound a es
  pub some : 1 ≤ length es
  pub difference : IsDifference given (tables_of es) place

-- the store stood for such a log
pub record WasOther (node cluster : ℕ) (bytes : List ℕ) (given : List TableDef) (place : ℕ) : Type 0 where
  pub promised : ℕ
  pub accepted : ℕ
  pub entries : List Entry
  pub stood : StandsFor node cluster bytes (Log promised accepted entries)
  pub other : IsOther accepted entries given place

-- which length is told where a call of the store failed: 0, where no call wrote to the store; that of the log for which the store
-- stood, and which may be taken up; or that of a log that was not judged yet, since the store was to be mended first
abbrev pub IsLengthOf : ℕ → ℕ → List ℕ → List TableDef → ℕ → ℕ → ℕ → Type 0
IsLengthOf node cluster bytes given size before now =
    ((size ≡ 0) × (now ≡ before)) ⊎ (WasRead node cluster bytes given size ⊎ WasUnmended node cluster bytes size)

abbrev pub IsWhy : WhyNotUp → ℕ → ℕ → List ℕ → List TableDef → ℕ → ℕ → Type 0
IsWhy (why.StoreFault length) node cluster bytes given before now = HasRisen before now
IsWhy (why.Refused at) node cluster bytes given before now =
    StandsFor node cluster bytes (Bad at) ⊎ (StandsFor node cluster bytes Foreign × (at ≡ 0))
IsWhy why.Unsound node cluster bytes given before now = WasUnsound node cluster bytes
IsWhy (why.Differs table) node cluster bytes given before now = WasOther node cluster bytes given table
IsWhy why.NoMemory node cluster bytes given before now = Unit {0}

-- the count is as it was, but where a call failed; of that it is told why
abbrev pub IsLater : WhyNotUp → ℕ → ℕ → Type 0
IsLater (why.StoreFault length) before now = Unit {0}
IsLater (why.Refused at) before now = now ≡ before
IsLater why.Unsound before now = now ≡ before
IsLater (why.Differs table) before now = now ≡ before
IsLater why.NoMemory before now = now ≡ before

-- the length that is told, by the counts of the calls that write
abbrev pub TellsLength : WhyNotUp → ℕ → ℕ → List ℕ → List TableDef → ℕ → ℕ → Type 0
TellsLength (why.StoreFault length) node cluster bytes given before now = IsLengthOf node cluster bytes given length before now
TellsLength (why.Refused at) node cluster bytes given before now = Unit {0}
TellsLength why.Unsound node cluster bytes given before now = Unit {0}
TellsLength (why.Differs table) node cluster bytes given before now = Unit {0}
TellsLength why.NoMemory node cluster bytes given before now = Unit {0}

-- why a node is not up whose store was not opened
abbrev pub unopened : OpenFault → WhyNotUp
unopened (fault.StoreFault None) = why.StoreFault 0
unopened (fault.StoreFault (Some length)) = why.StoreFault length
unopened fault.Foreign = why.Refused 0
unopened (fault.Corrupt at) = why.Refused at
unopened fault.NoMemory = why.NoMemory

-- what is told of a log that is not taken up
abbrev pub IsJudged : WhyNotUp → ℕ → List Entry → List TableDef → Type 0
IsJudged (why.StoreFault length) accepted entries given = ⊥
IsJudged (why.Refused at) accepted entries given = ⊥
IsJudged why.Unsound accepted entries given = IsSound accepted entries → ⊥
IsJudged (why.Differs table) accepted entries given = IsOther accepted entries given table
IsJudged why.NoMemory accepted entries given = Unit {0}

-- a node stopped where it was to stand with a good log, or to begin it
pub record StopsOn (l : Logged) (bytes : List ℕ) (given : List TableDef) : Type 0 where
  pub good : IsGood l.accepted l.entries given
  pub stands : ∥ StandsPartway l.node l.cluster bytes given l.promised l.accepted l.entries ∥₁

-- a call of the store failed there
pub record FailsOn (l : Logged) (bytes : List ℕ) (given : List TableDef) (size now : ℕ) : Type 0 where
  pub stops : StopsOn l bytes given
  pub rose : HasRisen l.store.faults now
  pub had : size ≡ length l.entries

-- why a node is not up whose log was opened, and what is left of its store
abbrev pub IsDown : WhyNotUp → Logged → List TableDef → List ℕ → ℕ → Type 0
IsDown (why.StoreFault length) l given bytes now = FailsOn l bytes given length now
IsDown (why.Refused at) l given bytes now = ⊥
IsDown why.Unsound l given bytes now = (IsSound l.accepted l.entries → ⊥) × (bytes ≡ l.store.synced)
IsDown (why.Differs table) l given bytes now = IsOther l.accepted l.entries given table × (bytes ≡ l.store.synced)
IsDown why.NoMemory l given bytes now = (bytes ≡ l.store.synced) ⊎ StopsOn l bytes given
