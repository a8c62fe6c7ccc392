-- A lawful table, the limits of a schema, and the place of a table in it.
use Rattle.std.specs.Prelude.{ℕ, ◌+◌, ◌==◌, ◌∷◌, [], List, Bool, true, false, ◌&&◌, ◌||◌, if◌then◌else◌, nat_lt, nat_le, slice_get, map, length, Option, Some, None}
use Rattle.std.specs.List.{list_any}
use Rattle.std.specs.Str.{bytes_eq}
use Rattle.cdb_values.specs.declared.schemas.AddFault.{AddFault}
use Rattle.cdb_values.specs.declared.schemas.AddFault.TheVariants.{Taken, Unlawful, Limit}
use Rattle.cdb_values.specs.declared.tables.TableDef.{TableDef}
use Rattle.cdb_values.specs.declared.tables.KeyDef.{KeyDef}
use Rattle.cdb_values.specs.declared.tables.ColumnDef.{ColumnDef}

-- whether a name is among these
abbrev pub is_named : List ℕ → List (List ℕ) → Bool
is_named name names = list_any (λ other. bytes_eq other name) names

-- whether a name stands twice among these
abbrev pub has_twice : List (List ℕ) → Bool
has_twice [] = false
has_twice (name ∷ names) = is_named name names || has_twice names

-- the place of the first of these tables with that name, counted on from a number
abbrev pub place_from : ℕ → List TableDef → List ℕ → Option ℕ
place_from at [] name = None
place_from at (table ∷ tables) name = if bytes_eq table.name name then Some at else place_from (at + 1) tables name

-- the place of the table with that name, from 0
abbrev pub place_of : List TableDef → List ℕ → Option ℕ
place_of tables name = place_from 0 tables name

-- whether no key can name this column: there is none, or the key is unique and it may hold NULL
abbrev pub is_bad_column : Bool → Option ColumnDef → Bool
is_bad_column unique None = true
is_bad_column unique (Some column) = unique && column.nullable

-- whether one of these places names no column that a key can name
abbrev pub are_bad_columns : List ColumnDef → Bool → List ℕ → Bool
are_bad_columns columns unique places = list_any (λ place. is_bad_column unique (slice_get columns place)) places

-- whether one of these keys is over no column, over an unknown one, or is unique over one that may hold NULL
abbrev pub are_bad_keys : List ColumnDef → List KeyDef → Bool
are_bad_keys columns keys = list_any (λ key. (length key.columns == 0) || are_bad_columns columns key.unique key.columns) keys

-- whether a table says something that no table may say
abbrev pub is_unlawful : TableDef → Bool
is_unlawful table = has_twice (map (λ c. c.name) table.columns)
    || has_twice (map (λ k. k.name) table.keys)
    || are_bad_keys table.columns table.keys

-- whether a name is outside 1 to 32 bytes
abbrev pub is_long_name : List ℕ → Bool
is_long_name name = (length name == 0) || nat_lt 32 (length name)

abbrev pub are_long_names : List (List ℕ) → Bool
are_long_names names = list_any is_long_name names

-- whether one of these keys has such a name, or more than 8 columns
abbrev pub are_long_keys : List KeyDef → Bool
are_long_keys keys = list_any (λ key. is_long_name key.name || nat_lt 8 (length key.columns)) keys

-- whether a table passes a limit of its own: names of 1 to 32 bytes, 64 columns, 8 keys, 8 columns of a key
abbrev pub is_past_limits : TableDef → Bool
is_past_limits table = is_long_name table.name
    || nat_lt 64 (length table.columns)
    || nat_lt 8 (length table.keys)
    || are_long_names (map (λ c. c.name) table.columns)
    || are_long_keys table.keys

-- why a table can't be added to these, if it can't: the first cause in this order
abbrev pub add_fault : List TableDef → TableDef → Option AddFault
add_fault tables table =
    if is_named table.name (map (λ t. t.name) tables) then Some Taken
    else if is_unlawful table then Some Unlawful
    else if nat_le 64 (length tables) || is_past_limits table then Some Limit
    else None
