-- Rows that fit the cells of trees: the code of a row has at most 1,600 bytes, and that of each key at most 512. With the
-- genid's 8 bytes and a length of 2 bytes a pair then has at most 1,610 bytes, and its key at most 520.
use Rattle.std.specs.Prelude.{ℕ, ◌≤◌, ◌<◌, ◌==◌, Bool, List, length, IfSome}
use Rattle.std.specs.List.{AllByRecursion, slice_get}
use Rattle.cdb_values.specs.Good.{bytes_of_row, bytes_of_key, key_of}
use Rattle.cdb_values.specs.Rows.{Rows}
use Rattle.cdb_values.specs.declared.limits.TheConstants.{MOST_ROW_BYTES, MOST_KEY_BYTES}
use Rattle.cdb_values.specs.declared.rows.RowOp.{RowOp}
use Rattle.cdb_values.specs.declared.rows.RowOp.TheVariants.{Insert, Update, Delete}
use Rattle.cdb_values.specs.declared.tables.TableDef.{TableDef}
use Rattle.cdb_values.specs.declared.tables.KeyDef.{KeyDef}
use Rattle.cdb_values.specs.declared.values.Value.{Value}
use Rattle.table_store.specs.Operations.{AreDoable}

-- a row that fits the trees of a table with these keys
pub record FitsTrees (defs : List KeyDef) (row : List Value) : Type 0 where
  pub size : bytes_of_row row ≤ MOST_ROW_BYTES
  pub keys : AllByRecursion (λ key. bytes_of_key (key_of key row) ≤ MOST_KEY_BYTES) defs

-- a row that fits the trees of the table at a place, where there is one
abbrev pub FitsAt : List TableDef → ℕ → List Value → Type 0
FitsAt tables place row = IfSome (slice_get tables place) (λ table. FitsTrees table.keys row)

-- the row that an operation writes fits the trees of its table
abbrev pub WritesFitting : List TableDef → RowOp → Type 0
WritesFitting tables (Insert place row) = FitsAt tables place row
WritesFitting tables (Update place target old row) = FitsAt tables place row
WritesFitting tables (Delete place target old) = Unit {0}

-- operations that can be done on each table of a state
abbrev pub AreAllDoable : Rows → List RowOp → Type 0
AreAllDoable rows ops = (table : ℕ) → table < length rows.tables → AreDoable rows table ops

-- whether an operation names the table at a place
abbrev pub names : ℕ → RowOp → Bool
names table (Insert place row) = place == table
names table (Update place target old row) = place == table
names table (Delete place target old) = place == table
