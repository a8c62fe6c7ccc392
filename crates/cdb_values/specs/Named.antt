-- A table of a schema by its name, with its place.
use Rattle.std.specs.Prelude.{ℕ, List, Option, Some, None, slice_get}
use Rattle.cdb_values.specs.Tables.{place_of}
use Rattle.cdb_values.specs.declared.schemas.Found.{Found}
use Rattle.cdb_values.specs.declared.tables.TableDef.{TableDef}

-- a table and its place
pub record PlacedTable : Type 0 where
  pub place : ℕ
  pub table : TableDef

abbrev pub with_place : ℕ → Option TableDef → Option PlacedTable
with_place place None = None
with_place place (Some table) = Some (record { place = place; table = table })

abbrev pub found_at : List TableDef → Option ℕ → Option PlacedTable
found_at tables None = None
found_at tables (Some place) = with_place place (slice_get tables place)

-- the first of these tables with that name
abbrev pub table_named : List TableDef → List ℕ → Option PlacedTable
table_named tables name = found_at tables (place_of tables name)

-- what a value of the code says
abbrev pub place_in : Option Found → Option PlacedTable
place_in None = None
place_in (Some f) = Some (record { place = f.place; table = f.table.now })
