-- The place of a column in its table.
use Rattle.std.specs.Prelude.{ℕ, ◌+◌, ◌∷◌, [], List, if◌then◌else◌, Option, Some, None}
use Rattle.std.specs.Str.{bytes_eq}
use Rattle.cdb_values.specs.declared.tables.ColumnDef.{ColumnDef}

-- the place of the first of these columns with that name, counted on from a number
abbrev pub column_from : ℕ → List ℕ → List ColumnDef → Option ℕ
column_from at name [] = None
column_from at name (column ∷ columns) = if bytes_eq column.name name then Some at else column_from (at + 1) name columns

-- the place of the first column with that name, from 0
abbrev pub column_at : List ℕ → List ColumnDef → Option ℕ
column_at name columns = column_from 0 name columns
