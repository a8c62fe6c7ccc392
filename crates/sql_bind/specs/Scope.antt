-- The tables of a statement, and the columns that a name may mean.
--
-- A column's place in its table and its table's place in FROM are one byte each. What stands past the place 255 has no
-- place and cannot be named. No statement that is read comes near it: FROM has at most three tables, and a table of a
-- schema at most 64 columns.
use Rattle.std.specs.Prelude.{ℕ, ◌+◌, ◌==◌, List, [], ◌∷◌, Bool, true, false, not, if◌then◌else◌, nat_lt, take, slice_get, Option, Some, None, unwrap_or, is_some, is_none, option_map}
use Rattle.std.specs.Option.{option_and_then}
use Rattle.std.specs.List.{list_any, count_by}
use Rattle.std.specs.Str.{bytes_eq}
use Rattle.cdb_values.specs.Named.{PlacedTable, table_named}
use Rattle.cdb_values.specs.Columns.{column_at}
use Rattle.cdb_values.specs.declared.tables.ColumnDef.{ColumnDef}
use Rattle.cdb_values.specs.declared.tables.ColumnType.{ColumnType}
use Rattle.cdb_values.specs.declared.tables.TableDef.{TableDef}
use Rattle.sql_grammar.specs.Trees.{Name, Column, Source}
use Rattle.sql_bind.specs.declared.types.BoundColumn.{BoundColumn}

-- a table of a statement, under the name by which its columns may be called
pub record Visible : Type 0 where
  -- its place in the schema
  pub table : ℕ
  pub name : Name
  pub columns : List ColumnDef

-- a statement with an unknown table is refused for it; until then that table has place 0 and no columns
abbrev pub visible_at : Name → Option PlacedTable → Visible
visible_at name None = record { table = 0; name = name; columns = [] }
visible_at name (Some found) = record { table = found.place; name = name; columns = found.table.columns }

-- a table under its own name
abbrev pub target : List TableDef → Name → Visible
target tables name = visible_at name (table_named tables name)

-- a table of FROM; an alias hides the table's name
abbrev pub visible : List TableDef → Source → Visible
visible tables source = visible_at (unwrap_or source.alias source.table) (table_named tables source.table)

abbrev pub is_unknown_table : List TableDef → Name → Bool
is_unknown_table tables name = is_none (table_named tables name)

abbrev pub as_byte : ℕ → Option ℕ
as_byte n = if nat_lt n 256 then Some n else None

-- the place of the column with that name in a table
abbrev pub column_place : Visible → Name → Option ℕ
column_place table name = option_and_then as_byte (column_at name table.columns)

-- whether a column with this qualifier, or with none, may come from a table of that name
abbrev pub is_called : Option Name → Name → Bool
is_called None name = true
is_called (Some qualifier) name = bytes_eq qualifier name

-- the column of that table which a name may mean
abbrev pub place_in : Column → Visible → Option ℕ
place_in column table = if is_called column.qualifier table.name then column_place table column.name else None

abbrev pub may_mean : Column → Visible → Bool
may_mean column table = is_some (place_in column table)

-- no table has the column
abbrev pub is_unknown : List Visible → Column → Bool
is_unknown scope column = not (list_any (may_mean column) scope)

-- two tables have it
abbrev pub is_ambiguous : List Visible → Column → Bool
is_ambiguous scope column = nat_lt 1 (count_by (may_mean column) scope)

abbrev pub is_same_place : Option ℕ → Option ℕ → Bool
is_same_place None _ = false
is_same_place (Some a) None = false
is_same_place (Some a) (Some b) = a == b

-- whether two names may mean one column
abbrev pub may_be_same : List Visible → Column → Column → Bool
may_be_same scope a b = list_any (λ table. is_same_place (place_in a table) (place_in b table)) scope

abbrev pub at_place : ℕ → Option ℕ → Option BoundColumn → Option BoundColumn
at_place place None later = later
at_place place (Some column) later = Some (record { place = place; column = column })

-- the first column that a name may mean, with the tables' places counted on from a number
abbrev pub meant_from : ℕ → List Visible → Column → Option BoundColumn
meant_from place [] column = None
meant_from place (table ∷ tables) column = at_place place (place_in column table) (meant_from (place + 1) tables column)

-- the column that a name means; a statement that names an unknown column is refused for it
abbrev pub meant : List Visible → Column → BoundColumn
meant scope column = unwrap_or (meant_from 0 scope column) (record { place = 0; column = 0 })

abbrev pub kind_at : Visible → Option ℕ → Option ColumnType → Option ColumnType
kind_at table None later = later
kind_at table (Some place) later = option_map (λ column. column.kind) (slice_get table.columns place)

-- the type of that column
abbrev pub kind_meant : List Visible → Column → Option ColumnType
kind_meant [] column = None
kind_meant (table ∷ tables) column = kind_at table (place_in column table) (kind_meant tables column)

-- the tables that can be named
abbrev pub named_ones : List Visible → List Visible
named_ones tables = take 256 tables
