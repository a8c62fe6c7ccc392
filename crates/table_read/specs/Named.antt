-- The names of a key's columns: those of the columns at its places, and those that are written.
use Rattle.std.specs.Prelude.{ℕ, List, map, slice_get, Option, Some, option_map}
use Rattle.cdb_values.specs.declared.tables.ColumnDef.{ColumnDef}
use Rattle.cdb_values.specs.declared.tables.KeyDef.{KeyDef}
use Rattle.table_read.specs.declared.keys.WrittenKey.{WrittenKey}

-- the name of the column at a place, if there is one
abbrev pub name_at : List ColumnDef → ℕ → Option (List ℕ)
name_at columns place = option_map (λ column. column.name) (slice_get columns place)

-- the names of the columns at the places of a key
abbrev pub names_at : List ColumnDef → KeyDef → List (Option (List ℕ))
names_at columns key = map (name_at columns) key.columns

-- the names that are written for a key
abbrev pub names_written : WrittenKey → List (Option (List ℕ))
names_written key = map (λ name. Some name) key.columns
