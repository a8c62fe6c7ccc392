-- A sound log: one that a node may take up and go on with.
--
-- A log without entries is sound. Any other one is sound where
--
-- * its first entry is a setup, and all others are those of transactions,
-- * its pages stand for a good state of the schema, with a next genid and a number of pages below 2^62,
-- * its identities are apart,
-- * none of them began in a generation above the accepted one.
use Rattle.std.specs.Prelude.{◌≡◌, ◌⊎◌, ℕ, ◌≤◌, List, [], drop, Some}
use Rattle.std.specs.List.{AllByRecursion}
use Rattle.cdb_values.specs.Rows.{Rows}
use Rattle.phys_log.specs.Logs.{pages_of}
use Rattle.phys_log.specs.declared.entries.CommitId.{CommitId}
use Rattle.phys_log.specs.declared.entries.Entry.{Entry}
use Rattle.log_replay.specs.Answers.{schema_of}
use Rattle.log_rows.specs.History.{tables_of, IsCommit}
use Rattle.table_state.specs.States.{HasState}
use Rattle.sound_log.specs.Identities.{ids_in, AreApart}

-- an identity began in a generation, or before it
abbrev pub HasBegunBy : ℕ → CommitId → Type 0
HasBegunBy accepted id = id.began ≤ accepted

-- an identity began in a generation
abbrev pub IsBegunIn : ℕ → CommitId → Type 0
IsBegunIn generation id = id.began ≡ generation

-- a log with entries is sound
pub record IsSoundHistory (accepted : ℕ) (entries : List Entry) : Type 0 where
  pub setup : schema_of entries ≡ Some (tables_of entries)
  pub commits : AllByRecursion IsCommit (drop 1 entries)
  pub rows : Rows
  pub state : HasState (pages_of entries) (tables_of entries) rows
  pub apart : AreApart (ids_in entries)
  pub begun : AllByRecursion (HasBegunBy accepted) (ids_in entries)

-- a log is sound
abbrev pub IsSound : ℕ → List Entry → Type 0
IsSound accepted entries = (entries ≡ []) ⊎ IsSoundHistory accepted entries

-- the rows for which the pages of a log stand; one without entries has no tables
abbrev pub IsStateOf : List Entry → Rows → Type 0
IsStateOf entries rows = (entries ≡ []) ⊎ HasState (pages_of entries) (tables_of entries) rows
