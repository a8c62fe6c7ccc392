-- The rows that INSERT and UPDATE write, and the errors of a row in their order.
--
-- SET evaluates on the old row, each step from the left; `+` and `-` with NULL give NULL. Of the rows in
-- order the first with an error decides, and on it the first of overflow, notnull and toolong.
use Rattle.std.specs.Prelude.{ℕ, ◌+ℤ◌, ◌-ℤ◌, ◌∷◌, [], List, Bool, true, false, ◌&&◌, ◌||◌, not, if◌then◌else◌, nat_lt, slice_set, Option, Some, None}
use Rattle.std.specs.Option.{option_and_then}
use Rattle.std.specs.List.{list_any}
use Rattle.cdb_values.specs.Good.{bytes_of_row, bytes_of_key, key_of}
use Rattle.cdb_values.specs.declared.limits.TheConstants.{MOST_ROW_BYTES, MOST_KEY_BYTES}
use Rattle.cdb_values.specs.declared.rows.StatementError.{StatementError}
use Rattle.cdb_values.specs.declared.rows.StatementError.TheVariants as error
use Rattle.cdb_values.specs.declared.tables.ColumnDef.{ColumnDef}
use Rattle.cdb_values.specs.declared.tables.KeyDef.{KeyDef}
use Rattle.cdb_values.specs.declared.tables.TableDef.{TableDef}
use Rattle.cdb_values.specs.declared.values.Value.{Value}
use Rattle.cdb_values.specs.declared.values.Value.TheVariants.{Null, Int}
use Rattle.sql_bind.specs.declared.types.BoundAssign.{BoundAssign}
use Rattle.sql_bind.specs.declared.types.BoundStep.{BoundStep}
use Rattle.session_language.specs.Intervals.{is_null}
use Rattle.sql_answer.specs.Aggregates.{int_value}
use Rattle.sql_answer.specs.Conditions.{operand_value}

-- a value with another added to it or taken away: nothing where that leaves 64 bits
abbrev pub changed : Bool → Value → Value → Option Value
changed true (Int x) (Int y) = int_value (x -ℤ y)
changed false (Int x) (Int y) = int_value (x +ℤ y)
changed _ _ _ = Some Null

-- a value after these steps, on the old row
abbrev pub stepped : List (List Value) → Option Value → List BoundStep → Option Value
stepped old value [] = value
stepped old value (step ∷ steps) = stepped old (option_and_then (λ v. changed step.minus v (operand_value old step.operand)) value) steps

-- the value that a column of SET gets
abbrev pub assigned : List (List Value) → BoundAssign → Option Value
assigned old assign = stepped old (Some (operand_value old assign.first)) assign.rest

-- a row with these columns set, each by the old row
abbrev pub set_from : List (List Value) → List BoundAssign → List Value → Option (List Value)
set_from old [] row = Some row
set_from old (assign ∷ assigns) row = option_and_then (λ value. set_from old assigns (slice_set row assign.column value)) (assigned old assign)

-- the row that SET makes of a row; nothing where a value leaves 64 bits
abbrev pub set_row : List BoundAssign → List Value → Option (List Value)
set_row assigns row = set_from (row ∷ []) assigns row

-- whether a NULL stands in a column that may not hold it
abbrev pub has_null : List ColumnDef → List Value → Bool
has_null [] row = false
has_null (column ∷ columns) [] = false
has_null (column ∷ columns) (value ∷ row) = (not column.nullable && is_null value) || has_null columns row

-- whether the code of a row, or of one of its keys, is too long
abbrev pub is_too_long : List KeyDef → List Value → Bool
is_too_long keys row = nat_lt MOST_ROW_BYTES (bytes_of_row row) || list_any (λ key. nat_lt MOST_KEY_BYTES (bytes_of_key (key_of key row))) keys

abbrev pub columns_of : Option TableDef → List ColumnDef
columns_of None = []
columns_of (Some table) = table.columns

abbrev pub keys_of : Option TableDef → List KeyDef
keys_of None = []
keys_of (Some table) = table.keys

-- the first error of a row that is written to a table, nothing standing for one with a value outside 64 bits
abbrev pub row_error : Option TableDef → Option (List Value) → Option StatementError
row_error table None = Some error.Overflow
row_error table (Some row) =
    if has_null (columns_of table) row then Some error.NotNull
    else if is_too_long (keys_of table) row then Some error.TooLong
    else None

abbrev pub or_later : Option StatementError → Option StatementError → Option StatementError
or_later None later = later
or_later (Some e) later = Some e

-- the first error of rows, in their order
abbrev pub rows_error : Option TableDef → List (Option (List Value)) → Option StatementError
rows_error table [] = None
rows_error table (row ∷ rows) = or_later (row_error table row) (rows_error table rows)
