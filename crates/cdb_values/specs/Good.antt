-- A good state: every row fits its table, and every key is kept.
--
-- A row fits where it has one value for each column, of the column's type or NULL where the column
-- allows it, and its code and the codes of its keys are within their limits. A unique key is kept
-- where no two versions of the table have the same values there.
use Rattle.std.specs.Prelude.{◌≡◌, ℕ, ◌+◌, ◌≤◌, ◌++◌, ◌∷◌, [], List, Bool, true, ◌&&◌, not, if◌then◌else◌, unwrap_or, slice_get, map, length, Option, Some, None, count_by, ◌==◌}
use Rattle.std.specs.List.{list_any, AllByRecursion}
use Rattle.std.specs.Ordering.{is_eq}
use Rattle.std.specs.Cmp.Lexicographic.{slice_cmp}
use Rattle.cdb_values.specs.Order.{value_order}
use Rattle.cdb_values.specs.declared.limits.TheConstants.{MOST_ROW_BYTES, MOST_KEY_BYTES}
use Rattle.cdb_values.specs.declared.rows.Version.{Version}
use Rattle.cdb_values.specs.declared.tables.TableDef.{TableDef}
use Rattle.cdb_values.specs.declared.tables.KeyDef.{KeyDef}
use Rattle.cdb_values.specs.declared.tables.ColumnDef.{ColumnDef}
use Rattle.cdb_values.specs.declared.tables.ColumnType.TheVariants as kinds
use Rattle.cdb_values.specs.declared.values.Value.{Value}
use Rattle.cdb_values.specs.declared.values.Value.TheVariants.{Null, Int, Text, Blob}

-- a value may stand in a column
abbrev pub FitsColumn : ColumnDef → Value → Type 0
FitsColumn column Null = column.nullable ≡ true
FitsColumn column (Int _) = column.kind ≡ kinds.Integer
FitsColumn column (Text _) = column.kind ≡ kinds.Text
FitsColumn column (Blob _) = column.kind ≡ kinds.Blob

-- one value for each column, each of which may stand there
abbrev pub FitsColumns : List ColumnDef → List Value → Type 0
FitsColumns [] [] = Unit {0}
FitsColumns [] (_ ∷ _) = ⊥
FitsColumns (_ ∷ _) [] = ⊥
FitsColumns (column ∷ columns) (value ∷ values) = FitsColumn column value × FitsColumns columns values

-- the bytes of a value's code in a row: a tag, and 8 bytes of an integer, or a length of 4 bytes and the bytes
abbrev pub row_bytes : Value → ℕ
row_bytes Null = 1
row_bytes (Int _) = 9
row_bytes (Text text) = 5 + length text
row_bytes (Blob blob) = 5 + length blob

-- the bytes of a value's code in a key: a tag, and 8 bytes of an integer, or the bytes, each NUL as two, and two more
abbrev pub key_bytes : Value → ℕ
key_bytes Null = 1
key_bytes (Int _) = 9
key_bytes (Text text) = 3 + length text + count_by (λ b. b == 0) text
key_bytes (Blob blob) = 3 + length blob + count_by (λ b. b == 0) blob

abbrev pub bytes_of_row : List Value → ℕ
bytes_of_row [] = 0
bytes_of_row (value ∷ values) = row_bytes value + bytes_of_row values

abbrev pub bytes_of_key : List Value → ℕ
bytes_of_key [] = 0
bytes_of_key (value ∷ values) = key_bytes value + bytes_of_key values

-- the values of a row at the columns of a key
abbrev pub key_of : KeyDef → List Value → List Value
key_of key row = map (λ column. unwrap_or (slice_get row column) Null) key.columns

-- a row may stand in a table
pub record FitsTable (table : TableDef) (row : List Value) : Type 0 where
  pub columns : FitsColumns table.columns row
  pub size : bytes_of_row row ≤ MOST_ROW_BYTES
  pub keys : AllByRecursion (λ key. bytes_of_key (key_of key row) ≤ MOST_KEY_BYTES) table.keys

-- two lists of values that the order does not tell apart
abbrev pub same_values : List Value → List Value → Bool
same_values xs ys = is_eq (slice_cmp value_order xs ys)

-- whether one of these versions has the same values at the key as this row
abbrev pub is_key_taken : KeyDef → List Value → List Version → Bool
is_key_taken key row versions = list_any (λ v. same_values (key_of key row) (key_of key v.row)) versions

-- whether each version has other values at the key than those before it
abbrev pub are_apart : KeyDef → List Version → List Version → Bool
are_apart key before [] = true
are_apart key before (v ∷ vs) = not (is_key_taken key v.row before) && are_apart key (before ++ v ∷ []) vs

-- whether a table's versions break that key: it is unique, and two of them have the same values there
abbrev pub breaks : List Version → KeyDef → Bool
breaks versions key = key.unique && not (are_apart key [] versions)

-- the first of these keys that is broken
abbrev pub broken_key : List Version → List KeyDef → Option KeyDef
broken_key versions [] = None
broken_key versions (key ∷ keys) = if breaks versions key then Some key else broken_key versions keys

-- a key of a table, by their names
pub record KeyName : Type 0 where
  pub table : List ℕ
  pub key : List ℕ

abbrev pub or_broken : TableDef → Option KeyDef → Option KeyName → Option KeyName
or_broken table None later = later
or_broken table (Some key) later = Some (record { table = table.name; key = key.name })

-- the first broken key, in the order of the tables and then of their keys
abbrev pub first_broken : List TableDef → List (List Version) → Option KeyName
first_broken [] _ = None
first_broken (_ ∷ _) [] = None
first_broken (table ∷ tables) (versions ∷ rest) = or_broken table (broken_key versions table.keys) (first_broken tables rest)

-- every row of every table fits it
abbrev pub AllFit : List TableDef → List (List Version) → Type 0
AllFit [] [] = Unit {0}
AllFit [] (_ ∷ _) = ⊥
AllFit (_ ∷ _) [] = ⊥
AllFit (table ∷ tables) (versions ∷ rest) = AllByRecursion (λ v. FitsTable table v.row) versions × AllFit tables rest

-- a good state: the versions of each table, by the table's place
pub record IsGood (tables : List TableDef) (versions : List (List Version)) : Type 0 where
  pub rows_fit : AllFit tables versions
  pub keys_kept : first_broken tables versions ≡ None
