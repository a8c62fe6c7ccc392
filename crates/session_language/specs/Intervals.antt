-- Which rows lie in an interval, and what changes touch it.
--
-- A row meets a value or a bound where neither is NULL and the order of values says so. So NULL in a column
-- that is compared lies in no interval, whichever side the bound is on. A row that lacks a column has NULL there.
-- An interval without a key has all rows of its table, and one whose key the table lacks has none.
-- Changes touch an interval where a row that they take away or add lies in it.
use Rattle.std.specs.Prelude.{◌≡◌, ℕ, ◌∷◌, ◌==◌, [], List, Bool, true, false, ◌&&◌, ◌||◌, not, slice_get, length, unwrap_or, Option, Some, None, filter}
use Rattle.std.specs.List.{list_any}
use Rattle.std.specs.declared.cmp.Ordering.{Ordering}
use Rattle.std.specs.Ordering.{is_eq, is_lt, is_le, is_gt, is_ge}
use Rattle.cdb_values.specs.Order.{value_order}
use Rattle.cdb_values.specs.Rows.{Rows, versions_of}
use Rattle.cdb_values.specs.declared.items.Edge.{Edge}
use Rattle.cdb_values.specs.declared.items.Edge.TheVariants.{Free, AtLeast, Above, AtMost, Below}
use Rattle.cdb_values.specs.declared.items.Interval.{Interval}
use Rattle.cdb_values.specs.declared.rows.Change.{Change}
use Rattle.cdb_values.specs.declared.rows.Change.TheVariants as change
use Rattle.cdb_values.specs.declared.rows.Version.{Version}
use Rattle.cdb_values.specs.declared.tables.KeyDef.{KeyDef}
use Rattle.cdb_values.specs.declared.tables.TableDef.{TableDef}
use Rattle.cdb_values.specs.declared.values.Value.{Value}
use Rattle.cdb_values.specs.declared.values.Value.TheVariants.{Null, Int, Text, Blob}

-- the value in a column of a row, NULL where there is none
abbrev pub cell : List Value → ℕ → Value
cell row column = unwrap_or (slice_get row column) Null

abbrev pub is_null : Value → Bool
is_null Null = true
is_null (Int _) = false
is_null (Text _) = false
is_null (Blob _) = false

-- whether two values, neither of which is NULL, stand so in the order
abbrev pub stand_so : (Ordering → Bool) → Value → Value → Bool
stand_so so a b = not (is_null a || is_null b) && so (value_order a b)

-- whether a value is within a bound
abbrev pub is_within : Edge → Value → Bool
is_within Free v = true
is_within (AtLeast x) v = stand_so is_ge v x
is_within (Above x) v = stand_so is_gt v x
is_within (AtMost x) v = stand_so is_le v x
is_within (Below x) v = stand_so is_lt v x

-- whether a row has these values in the first of these columns
abbrev pub are_equal : List ℕ → List Value → List Value → Bool
are_equal columns [] row = true
are_equal [] (v ∷ values) row = false
are_equal (column ∷ columns) (v ∷ values) row = stand_so is_eq (cell row column) v && are_equal columns values row

-- whether a row has a value within two bounds in a column
abbrev pub is_between : Option ℕ → Edge → Edge → List Value → Bool
is_between None low high row = true
is_between (Some column) low high row = is_within low (cell row column) && is_within high (cell row column)

abbrev pub lies_by : Option KeyDef → Interval → List Value → Bool
lies_by None interval row = false
lies_by (Some key) interval row = are_equal key.columns interval.equal row && is_between (slice_get key.columns (length interval.equal)) interval.low interval.high row

-- the keys of the table at a place
abbrev pub keys_in : Option TableDef → List KeyDef
keys_in None = []
keys_in (Some table) = table.keys

abbrev pub keys_at : List TableDef → ℕ → List KeyDef
keys_at tables table = keys_in (slice_get tables table)

abbrev pub lies_at : List KeyDef → Option ℕ → Interval → List Value → Bool
lies_at keys None interval row = true
lies_at keys (Some key) interval row = lies_by (slice_get keys key) interval row

-- whether a row of its table lies in an interval
abbrev pub lies : List TableDef → Interval → List Value → Bool
lies tables interval row = not interval.empty && lies_at (keys_at tables interval.table) interval.key interval row

-- whether a row of a table lies in an interval
abbrev pub lies_in : List TableDef → Interval → ℕ → List Value → Bool
lies_in tables interval table row = (table == interval.table) && lies tables interval row

-- whether a change takes away or adds a row that lies in an interval
abbrev pub change_touches : List TableDef → Interval → Change → Bool
change_touches tables interval (change.Insert table genid row) = lies_in tables interval table row
change_touches tables interval (change.Update table genid old new row) = lies_in tables interval table old || lies_in tables interval table row
change_touches tables interval (change.Delete table genid old) = lies_in tables interval table old

abbrev pub changes_touch : List TableDef → Interval → List Change → Bool
changes_touch tables interval changes = list_any (change_touches tables interval) changes

-- the versions of its table that lie in an interval
abbrev pub inside : List TableDef → Interval → Rows → List Version
inside tables interval rows = filter (λ v. lies tables interval v.row) (versions_of rows interval.table)

-- an interval holds the same versions in two states
abbrev pub HoldsTheSame : List TableDef → Rows → Rows → Interval → Type 0
HoldsTheSame tables rows others interval = inside tables interval others ≡ inside tables interval rows
