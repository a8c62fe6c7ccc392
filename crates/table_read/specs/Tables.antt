-- The table of a definition. Its columns stand in the order of the text; NULL may stand in a column, unless it is marked
-- `not null` or the primary key is over it. Its keys are those that are written, each over the places of its columns
-- among all the columns of the table, from 0. A name that no column has gets the place behind the last column: a key over
-- that place is over an unknown column.
use Rattle.std.specs.Prelude.{ℕ, ◌+◌, Bool, true, false, not, ◌&&◌, ◌||◌, if◌then◌else◌, List, [], ◌∷◌, map, flat_map, bytes_eq}
use Rattle.std.specs.List.{list_any}
use Rattle.cdb_values.specs.Tables.{is_named}
use Rattle.cdb_values.specs.declared.tables.ColumnDef.{ColumnDef}
use Rattle.cdb_values.specs.declared.tables.ColumnType.{ColumnType}
use Rattle.cdb_values.specs.declared.tables.ColumnType.TheVariants as types
use Rattle.cdb_values.specs.declared.tables.KeyDef.{KeyDef}
use Rattle.cdb_values.specs.declared.tables.TableDef.{TableDef}
use Rattle.sql_grammar.specs.declared.types.Kind.{Kind}
use Rattle.sql_grammar.specs.declared.types.Kind.TheVariants as kinds
use Rattle.sql_grammar.specs.declared.types.Mark.{Mark}
use Rattle.sql_grammar.specs.declared.types.Mark.TheVariants as marks
use Rattle.sql_grammar.specs.Trees.{Part, ColumnPart, PrimaryPart, KeyPart, Definition}
use Rattle.table_read.specs.declared.keys.WrittenKey.{WrittenKey}
use Rattle.table_read.specs.Keys.{primary_name, written_keys}

-- whether this is a primary key, over this column
abbrev pub is_primary_over : List ℕ → WrittenKey → Bool
is_primary_over column key = bytes_eq key.name primary_name && is_named column key.columns

-- whether a primary key of these is over this column
abbrev pub is_in_primary : List WrittenKey → List ℕ → Bool
is_in_primary keys column = list_any (is_primary_over column) keys

-- whether the mark is `not null`
abbrev pub is_not_null : Mark → Bool
is_not_null marks.NotNull = true
is_not_null marks.PrimaryKey = false
is_not_null marks.Unique = false

-- the type of a column, as it is kept and as it is written
abbrev pub type_of : Kind → ColumnType
type_of kinds.Integer = types.Integer
type_of kinds.Text = types.Text
type_of kinds.Blob = types.Blob

-- a column of a table that has these keys
abbrev pub column_with : List WrittenKey → List ℕ → Kind → List Mark → ColumnDef
column_with keys name kind ms = record {
  name = name;
  kind = type_of kind;
  nullable = not (list_any is_not_null ms || is_in_primary keys name);
}

-- the column of a part, if it declares one
abbrev pub columns_of_part : List WrittenKey → Part → List ColumnDef
columns_of_part keys (ColumnPart name kind ms) = column_with keys name kind ms ∷ []
columns_of_part keys (PrimaryPart columns) = []
columns_of_part keys (KeyPart unique name columns) = []

-- the columns of all the parts, in the order of the text
abbrev pub columns_with : List WrittenKey → List Part → List ColumnDef
columns_with keys parts = flat_map (columns_of_part keys) parts

-- the place of the first of these columns with that name, or the place behind the last one
abbrev pub place_among : List ColumnDef → List ℕ → ℕ
place_among [] name = 0
place_among (column ∷ columns) name = if bytes_eq column.name name then 0 else place_among columns name + 1

-- a key, over the places of its columns
abbrev pub key_over : List ColumnDef → WrittenKey → KeyDef
key_over columns key = record { name = key.name; columns = map (place_among columns) key.columns; unique = key.unique }

-- a table of these columns and keys
abbrev pub table_with : List ℕ → List ColumnDef → List KeyDef → TableDef
table_with name columns keys = record { name = name; columns = columns; keys = keys }

-- a table of these columns with the keys that are written over them
abbrev pub table_over : List ℕ → List ColumnDef → List WrittenKey → TableDef
table_over name columns keys = table_with name columns (map (key_over columns) keys)

-- the table that a definition says
unfoldable pub table_said : Definition → TableDef
table_said definition = table_over definition.name (columns_with (written_keys definition.parts) definition.parts) (written_keys definition.parts)
