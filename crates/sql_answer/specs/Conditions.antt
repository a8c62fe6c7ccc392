-- The truth of a condition on a combination: one row for each table of FROM, in order.
use Rattle.std.specs.Prelude.{ℕ, List, Bool, true, not, if◌then◌else◌, slice_get, Option, Some, None}
use Rattle.cdb_values.specs.declared.values.Value.{Value}
use Rattle.cdb_values.specs.declared.values.Value.TheVariants.{Null}
use Rattle.sql_bind.specs.Bound.{Cond, AnyOf, AllOf, NotOf, Grouped, Compares, TestsNull, Conds, no_cond, more_conds}
use Rattle.sql_bind.specs.declared.types.BoundColumn.{BoundColumn}
use Rattle.sql_bind.specs.declared.types.BoundOperand.{BoundOperand}
use Rattle.sql_bind.specs.declared.types.BoundOperand.TheVariants as operand
use Rattle.session_language.specs.Intervals.{cell, is_null}
use Rattle.sql_answer.specs.Truth.{Truth, No, Yes, not3, and3, or3, is_yes, truth_of, compared}

abbrev pub cell_of : Option (List Value) → ℕ → Value
cell_of None column = Null
cell_of (Some row) column = cell row column

-- the value of a column in a combination
abbrev pub column_value : List (List Value) → BoundColumn → Value
column_value rows column = cell_of (slice_get rows column.place) column.column

-- the value of an operand in a combination
abbrev pub operand_value : List (List Value) → BoundOperand → Value
operand_value rows (operand.Value value) = value
operand_value rows (operand.Column column) = column_value rows column

-- whether a value is NULL, or is not
abbrev pub tests_null : Bool → Value → Bool
tests_null negated value = if negated then not (is_null value) else is_null value

-- the truth of a condition; the parts of OR and AND are taken from the left, on top of a truth so far
abbrev mutual
  pub truth : Cond → List (List Value) → Truth
  truth (AnyOf parts) rows = any_from No parts rows
  truth (AllOf parts) rows = all_from Yes parts rows
  truth (NotOf part) rows = not3 (truth part rows)
  truth (Grouped part) rows = truth part rows
  truth (Compares op left right) rows = compared op (operand_value rows left) (operand_value rows right)
  truth (TestsNull side negated) rows = truth_of (tests_null negated (operand_value rows side))

  pub any_from : Truth → Conds → List (List Value) → Truth
  any_from value no_cond rows = value
  any_from value (more_conds part parts) rows = any_from (or3 value (truth part rows)) parts rows

  pub all_from : Truth → Conds → List (List Value) → Truth
  all_from value no_cond rows = value
  all_from value (more_conds part parts) rows = all_from (and3 value (truth part rows)) parts rows

-- whether a condition is true of a combination
abbrev pub holds : List (List Value) → Cond → Bool
holds rows condition = is_yes (truth condition rows)

-- whether a WHERE is true of a combination; one that is not there is
abbrev pub meets : Option Cond → List (List Value) → Bool
meets None rows = true
meets (Some condition) rows = holds rows condition
