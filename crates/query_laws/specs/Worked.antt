-- Worked examples: a table t(id integer, v integer) with the keys pk(id), unique, and by_v(v), and
-- conditions on it. Its keys have the places 0 and 1.
use Rattle.std.specs.Prelude.{ℕ, ◌∷◌, [], List, true, false, Option, Some, None, codes}
use Rattle.cdb_values.specs.Rows.{Rows}
use Rattle.cdb_values.specs.declared.tables.TableDef.{TableDef}
use Rattle.cdb_values.specs.declared.tables.ColumnType.TheVariants as kinds
use Rattle.cdb_values.specs.declared.values.Value.{Value}
use Rattle.cdb_values.specs.declared.values.Value.TheVariants.{Null}
use Rattle.sql_bind.specs.Bound.{Cond, AllOf, NotOf, Compares}
use Rattle.sql_bind.specs.declared.types.BoundOperand.TheVariants as operand
use Rattle.sql_bind.specs.declared.types.Cmp.TheVariants as cmp
use Rattle.sql_answer.specs.Worked.{int, column_def, version_of_two, column, id, v, compares, both_conditions}
use Rattle.query_laws.specs.Intervals.{Edge, Free, Interval}

abbrev pub keyed_tables : List TableDef
keyed_tables = record {
  name = codes "t";
  columns = column_def (codes "id") kinds.Integer false ∷ column_def (codes "v") kinds.Integer true ∷ [];
  keys = record { name = codes "pk"; columns = 0 ∷ []; unique = true } ∷ record { name = codes "by_v"; columns = 1 ∷ []; unique = false } ∷ [];
} ∷ []

-- an interval of t by the key at a place
abbrev pub interval : ℕ → List Value → Edge → Edge → Interval
interval key equal low high = record { table = 0; key = Some key; equal = equal; low = low; high = high; empty = false }

abbrev pub whole_table : Interval
whole_table = record { table = 0; key = None; equal = []; low = Free; high = Free; empty = false }

-- where v = 3 and id > 5
abbrev pub v_and_id : Option Cond
v_and_id = Some (AllOf (both_conditions (compares cmp.Eq v 3) (compares cmp.Gt id 5)))

-- where id > 5 and 9 > id
abbrev pub between : Option Cond
between = Some (AllOf (both_conditions (compares cmp.Gt id 5)
    (Compares cmp.Gt (operand.Value (int 9)) (operand.Column id))))

-- where v = null
abbrev pub v_is_null : Option Cond
v_is_null = Some (Compares cmp.Eq (operand.Column v) (operand.Value Null))

-- where not id = 1
abbrev pub negated : Option Cond
negated = Some (NotOf (compares cmp.Eq id 1))

-- from t a, t b where a.id = 1 and b.id = a.v
abbrev pub joined : Option Cond
joined = Some (AllOf (both_conditions (compares cmp.Eq id 1)
    (Compares cmp.Eq (operand.Column (column 1 0)) (operand.Column v))))

-- t with 1|2 and 2|null
abbrev pub two_rows : Rows
two_rows = record { tables = (version_of_two 1 (int 1) (int 2) ∷ version_of_two 2 (int 2) Null ∷ []) ∷ []; next = 3 }
