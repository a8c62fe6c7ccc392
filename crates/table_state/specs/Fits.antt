-- Whether a row may stand in a table.
use Rattle.std.specs.Prelude.{◌&&◌, ◌||◌, not, Bool, true, false, List, [], ◌∷◌, nat_lt}
use Rattle.cdb_values.specs.Good.{bytes_of_row, bytes_of_key, key_of}
use Rattle.cdb_values.specs.declared.limits.TheConstants.{MOST_ROW_BYTES, MOST_KEY_BYTES}
use Rattle.cdb_values.specs.declared.tables.TableDef.{TableDef}
use Rattle.cdb_values.specs.declared.tables.KeyDef.{KeyDef}
use Rattle.cdb_values.specs.declared.tables.ColumnDef.{ColumnDef}
use Rattle.cdb_values.specs.declared.tables.ColumnType.{ColumnType}
use Rattle.cdb_values.specs.declared.tables.ColumnType.TheVariants as kinds
use Rattle.cdb_values.specs.declared.values.Value.{Value}
use Rattle.cdb_values.specs.declared.values.Value.TheVariants.{Null, Int, Text, Blob}

abbrev pub is_integer : ColumnType → Bool
is_integer kinds.Integer = true
is_integer kinds.Text = false
is_integer kinds.Blob = false

abbrev pub is_text : ColumnType → Bool
is_text kinds.Integer = false
is_text kinds.Text = true
is_text kinds.Blob = false

abbrev pub is_blob : ColumnType → Bool
is_blob kinds.Integer = false
is_blob kinds.Text = false
is_blob kinds.Blob = true

-- whether a value may stand in a column
abbrev pub fits_column : ColumnDef → Value → Bool
fits_column column Null = column.nullable
fits_column column (Int _) = is_integer column.kind
fits_column column (Text _) = is_text column.kind
fits_column column (Blob _) = is_blob column.kind

-- whether there is one value for each column, each of which may stand there
abbrev pub fits_columns : List ColumnDef → List Value → Bool
fits_columns [] [] = true
fits_columns [] (_ ∷ _) = false
fits_columns (_ ∷ _) [] = false
fits_columns (column ∷ columns) (value ∷ values) = fits_column column value && fits_columns columns values

-- whether a row's code is too long, and whether one of its keys' codes is
abbrev pub is_long_row : List Value → Bool
is_long_row row = nat_lt MOST_ROW_BYTES (bytes_of_row row)

abbrev pub is_long_key : List Value → KeyDef → Bool
is_long_key row key = nat_lt MOST_KEY_BYTES (bytes_of_key (key_of key row))

abbrev pub has_long_key : List KeyDef → List Value → Bool
has_long_key [] row = false
has_long_key (key ∷ keys) row = is_long_key row key || has_long_key keys row

-- whether a row may stand in a table
abbrev pub fits_table : TableDef → List Value → Bool
fits_table table row = fits_columns table.columns row && (not (is_long_row row) && not (has_long_key table.keys row))
