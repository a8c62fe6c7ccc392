-- A table of more than 64 columns is refused, and a place in it may not fit a byte. What it is refused for does not hang
-- on the places of its keys, only on their names and on whether one of them is bad. So a stand-in for a key keeps the
-- name, and is over the first column, or over no column where the key is bad. No public clause speaks of it.
use Rattle.std.specs.Prelude.{ℕ, Bool, false, ◌||◌, ◌==◌, if◌then◌else◌, List, [], ◌∷◌, length, slice_get}
use Rattle.std.specs.List.{list_any}
use Rattle.cdb_values.specs.Tables.{is_bad_column}
use Rattle.cdb_values.specs.declared.tables.ColumnDef.{ColumnDef}
use Rattle.cdb_values.specs.declared.tables.KeyDef.{KeyDef}
use Rattle.table_read.specs.declared.keys.WrittenKey.{WrittenKey}
use Rattle.table_read.specs.Tables.{place_among}

-- whether no such key can be over the column with that name
abbrev pub is_bad_name : List ColumnDef → Bool → List ℕ → Bool
is_bad_name columns unique name = is_bad_column unique (slice_get columns (place_among columns name))

-- whether the key is over no column, or over one that it can't be over
abbrev pub is_bad_key : List ColumnDef → WrittenKey → Bool
is_bad_key columns key = (length key.columns == 0) || list_any (is_bad_name columns key.unique) key.columns

-- the key that stands in for one
abbrev pub stand_in : List ColumnDef → WrittenKey → KeyDef
stand_in columns key = record { name = key.name; columns = if is_bad_key columns key then [] else 0 ∷ []; unique = false }
