-- An entry of a log with the rows behind it: those for which the log's pages stand up to it. An entry that is appended
-- has them. Of the entries of a store they are known behind the last one alone, and each of them carries these.
use Rattle.std.specs.Prelude.{ℕ, List, [], ◌∷◌}
use Rattle.cdb_values.specs.Rows.{Rows, no_rows}
use Rattle.cdb_values.specs.declared.rows.Change.{Change}
use Rattle.cdb_values.specs.declared.rows.Level.{Level}
use Rattle.cdb_values.specs.declared.tables.TableDef.{TableDef}
use Rattle.phys_log.specs.declared.entries.CommitId.{CommitId}
use Rattle.phys_log.specs.declared.entries.LogRecord.{LogRecord}
use Rattle.phys_log.specs.declared.entries.Entry.{Entry}
use Rattle.phys_log.specs.declared.entries.Entry.TheVariants as plain_entry

pub data KeptEntry : Type 0 where
  SetupKept : ℕ → List TableDef → List LogRecord → Rows → KeptEntry
  CommitKept : ℕ → CommitId → ℕ → Level → List Change → List LogRecord → Rows → KeptEntry

-- the entry as it is in the log
abbrev pub plain : KeptEntry → Entry
plain (SetupKept generation schema records reached) = plain_entry.Setup generation schema records
plain (CommitKept generation id begin level changes records reached) = plain_entry.Commit generation id begin level changes records

-- the rows behind it
abbrev pub rows_behind : KeptEntry → Rows
rows_behind (SetupKept generation schema records reached) = reached
rows_behind (CommitKept generation id begin level changes records reached) = reached

-- the rows behind the last of these, where those before them are given
abbrev pub state_from : Rows → List KeptEntry → Rows
state_from rows [] = rows
state_from rows (e ∷ es) = state_from (rows_behind e) es

-- the rows for which the pages of a log stand
abbrev pub state_of : List KeptEntry → Rows
state_of l = state_from (no_rows []) l
