-- The node of a run as its sessions read it: when the rows at a position can be asked for.
use Rattle.std.specs.Prelude.{◌≤◌, ℕ, List, length}
use Rattle.cdb_values.specs.declared.tables.TableDef.{TableDef}
use Rattle.log_rows.specs.History.{IsFrom}
use Rattle.phys_log.specs.declared.entries.Entry.{Entry}
use Rattle.script_play.specs.Ready.{IsLogged}
use Rattle.script_play.specs.Start.{Start, base}

pub record CanRead (start : Start) (tables : List TableDef) (log : List Entry) (at : ℕ) : Type 0 where
  pub logged : IsLogged start tables (length log) log
  pub first : IsFrom (base start) at
  pub within : at ≤ length log

-- what sessions read of it: the tables, the log, and the generation in which transactions begin
pub record Reader : Type 0 where
  pub tables : List TableDef
  pub log : List Entry
  pub generation : ℕ
