-- Intervals of a table: the whole table, or the rows whose first columns of a key equal given values
-- and whose next column of the key is within bounds. What a query reads of a table is an interval of it.
--
-- A row meets a value or a bound where that comparison is true, so NULL in a column that is compared
-- lies in no interval, whichever side the bound is on. A row that lacks a column has NULL there.
use Rattle.std.specs.Prelude.{ℕ, ◌∷◌, [], List, Bool, true, false, ◌&&◌, not, slice_get, length, Option, Some, None}
use Rattle.cdb_values.specs.declared.tables.KeyDef.{KeyDef}
use Rattle.cdb_values.specs.declared.tables.TableDef.{TableDef}
use Rattle.cdb_values.specs.declared.values.Value.{Value}
use Rattle.sql_bind.specs.declared.types.Cmp.TheVariants as cmp
use Rattle.session_language.specs.Intervals.{cell}
use Rattle.sql_answer.specs.Truth.{is_yes, compared}
use Rattle.sql_answer.specs.Writes.{keys_of}

-- a bound of a column, or none
pub data Edge : Type 0 where
  Free : Edge
  AtLeast : Value → Edge
  Above : Value → Edge
  AtMost : Value → Edge
  Below : Value → Edge

-- an interval of the table at a place, by the key at a place among the table's, or without one; `empty` where a
-- value or a bound is NULL
pub record Interval : Type 0 where
  pub table : ℕ
  pub key : Option ℕ
  pub equal : List Value
  pub low : Edge
  pub high : Edge
  pub empty : Bool

-- whether a value is within a bound
abbrev pub is_within : Edge → Value → Bool
is_within Free v = true
is_within (AtLeast x) v = is_yes (compared cmp.Ge v x)
is_within (Above x) v = is_yes (compared cmp.Gt v x)
is_within (AtMost x) v = is_yes (compared cmp.Le v x)
is_within (Below x) v = is_yes (compared cmp.Lt v x)

-- whether a row has these values in the first of these columns
abbrev pub are_equal : List ℕ → List Value → List Value → Bool
are_equal columns [] row = true
are_equal [] (v ∷ values) row = false
are_equal (column ∷ columns) (v ∷ values) row = is_yes (compared cmp.Eq (cell row column) v) && are_equal columns values row

-- whether a row has a value within two bounds in a column
abbrev pub is_between : Option ℕ → Edge → Edge → List Value → Bool
is_between None low high row = true
is_between (Some column) low high row = is_within low (cell row column) && is_within high (cell row column)

abbrev pub lies_by : Option KeyDef → Interval → List Value → Bool
lies_by None interval row = false
lies_by (Some key) interval row = are_equal key.columns interval.equal row && is_between (slice_get key.columns (length interval.equal)) interval.low interval.high row

abbrev pub lies_at : List KeyDef → Option ℕ → Interval → List Value → Bool
lies_at keys None interval row = true
lies_at keys (Some key) interval row = lies_by (slice_get keys key) interval row

-- whether a row of its table lies in an interval; none does in one whose key the table lacks
abbrev pub lies : List TableDef → Interval → List Value → Bool
lies tables interval row = not interval.empty && lies_at (keys_of (slice_get tables interval.table)) interval.key interval row
