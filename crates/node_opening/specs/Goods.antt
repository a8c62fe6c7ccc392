-- A log that a node may take up: it is sound, its rows are of bytes, and it has the given tables.
use Rattle.std.specs.Prelude.{◌≡◌, ◌⊎◌, ℕ, List, []}
use Rattle.cdb_values.specs.declared.tables.TableDef.{TableDef}
use Rattle.log_rows.specs.History.{tables_of}
use Rattle.phys_log.specs.declared.entries.Entry.{Entry}
use Rattle.sound_log.specs.Bytes.{AreOfBytes}
use Rattle.sound_log.specs.Sound.{IsSound}
use Rattle.store_log.specs.declared.standings.Standing.TheVariants.{Log}
use Rattle.store_log.specs.Held.{StandsFor}
use Rattle.node_opening.specs.Tables.{AreMatched}

-- it has no entries, or its tables are the given ones
abbrev pub HasTables : List TableDef → List Entry → Type 0
HasTables given entries = (entries ≡ []) ⊎ AreMatched given (tables_of entries)

pub record IsGood (accepted : ℕ) (entries : List Entry) (given : List TableDef) : Type 0 where
  pub sound : IsSound accepted entries
  pub bytes : AreOfBytes entries
  pub tables : HasTables given entries

-- the bytes of a store stand for such a log
pub record StandsForGood (node cluster : ℕ) (bytes : List ℕ) (given : List TableDef) (p a : ℕ) (es : List Entry) : Type 0 where
  pub stands : StandsFor node cluster bytes (Log p a es)
  pub good : IsGood a es given
