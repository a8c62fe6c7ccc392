-- A log that was read, as data.
use Rattle.std.specs.Prelude.{ℕ, List, Option}
use Rattle.std.specs.declared.snapshot.Snapshot.{Snapshot}
use Rattle.cdb_values.specs.Rows.{Rows}
use Rattle.cdb_values.specs.declared.tables.TableDef.{TableDef}
use Rattle.node_openings.specs.declared.found.ReadLog.{ReadLog}

abbrev pub log_found : ℕ → ℕ → ℕ → Option (List TableDef) → Snapshot Rows → ReadLog
log_found p a l tables rows = record { promised = p; accepted = a; length = l; tables = tables; rows = rows }
