-- Entries whose parts fit their fields.
--
-- Of a setup the tables are left out: those that a schema grew to fit their fields.
use Rattle.std.specs.Prelude.{ℕ, ◌<◌, ◌^◌, List, [], length}
use Rattle.std.specs.List.{AllByRecursion}
use Rattle.cdb_values.specs.declared.rows.Change.{Change}
use Rattle.frame_code.specs.Spelled.{IsNumber, IsNameBytes, IsChange, IsRecord, Grow}
use Rattle.phys_log.specs.declared.entries.CommitId.{CommitId}
use Rattle.phys_log.specs.declared.entries.Entry.{Entry}
use Rattle.phys_log.specs.declared.entries.Entry.TheVariants.{Setup, Commit}
use Rattle.phys_log.specs.declared.entries.LogRecord.{LogRecord}

-- parts that each fit their fields, and so few that all of them together do
pub record AreWithin {A : Type 0} (Has : A → Type 0) (parts : List A) : Type 0 where
  pub count : length parts < 2 ^ 28
  pub each : AllByRecursion Has parts

-- what tells a transaction
pub record IsId (id : CommitId) : Type 0 where
  pub began : IsNumber id.began
  pub session : IsNameBytes id.session
  pub txn : IsNumber id.txn

-- the parts of a setup without its tables, and those of a commit
pub record HasSetupFields (g : ℕ) (rs : List LogRecord) : Type 0 where
  pub generation : IsNumber g
  pub records : AreWithin IsRecord rs

pub record HasCommitFields (g : ℕ) (who : CommitId) (position : ℕ) (cs : List Change) (rs : List LogRecord) : Type 0 where
  pub generation : IsNumber g
  pub id : IsId who
  pub begin : IsNumber position
  pub changes : AreWithin IsChange cs
  pub records : AreWithin IsRecord rs

abbrev pub HasFields : Entry → Type 0
HasFields (Setup generation schema records) = HasSetupFields generation records
HasFields (Commit generation id begin level changes records) = HasCommitFields generation id begin changes records

-- the tables of a setup can be added one after the other
abbrev pub IsGrown : Entry → Type 0
IsGrown (Setup generation schema records) = Grow [] schema
IsGrown (Commit generation id begin level changes records) = Unit {0}
