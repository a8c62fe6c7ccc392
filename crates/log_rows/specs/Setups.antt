-- The first entry of a log: the setup of a schema in a generation.
use Rattle.std.specs.Prelude.{◌≡◌, ℕ, List}
use Rattle.cdb_values.specs.declared.tables.TableDef.{TableDef}
use Rattle.phys_log.specs.declared.entries.LogRecord.{LogRecord}
use Rattle.phys_log.specs.declared.entries.Entry.{Entry}
use Rattle.phys_log.specs.declared.entries.Entry.TheVariants.{Setup}

abbrev pub IsSetup : ℕ → List TableDef → Entry → Type 0
IsSetup generation tables entry = (records : List LogRecord) × (entry ≡ Setup generation tables records)
