-- The intervals that operations touch: those in which a version lies that they take away or add.
use Rattle.std.specs.Prelude.{ℕ, ◌==◌, ◌∷◌, [], List, Bool, false, ◌&&◌, ◌||◌}
use Rattle.std.specs.List.{list_any}
use Rattle.cdb_values.specs.Rows.{Rows, versions_of, apply}
use Rattle.cdb_values.specs.declared.rows.RowOp.{RowOp}
use Rattle.cdb_values.specs.declared.rows.RowOp.TheVariants as op
use Rattle.cdb_values.specs.declared.rows.RowRef.TheVariants.{Base, Own}
use Rattle.cdb_values.specs.declared.tables.TableDef.{TableDef}
use Rattle.cdb_values.specs.declared.values.Value.{Value}
use Rattle.query_laws.specs.Intervals.{Interval, lies}

-- whether the version of that genid lies in an interval
abbrev pub leaves : List TableDef → Interval → Rows → ℕ → ℕ → Bool
leaves tables interval rows table genid = (table == interval.table) && list_any (λ v. (v.genid == genid) && lies tables interval v.row) (versions_of rows table)

-- whether a row that is added to a table lies in an interval
abbrev pub enters : List TableDef → Interval → ℕ → List Value → Bool
enters tables interval table row = (table == interval.table) && lies tables interval row

-- whether an operation on these rows touches an interval
abbrev pub op_touches : List TableDef → Interval → Rows → RowOp → Bool
op_touches tables interval rows (op.Insert table row) = enters tables interval table row
op_touches tables interval rows (op.Update table (Base genid) old row) = leaves tables interval rows table genid || enters tables interval table row
op_touches tables interval rows (op.Update table (Own write) old row) = false
op_touches tables interval rows (op.Delete table (Base genid) old) = leaves tables interval rows table genid
op_touches tables interval rows (op.Delete table (Own write) old) = false

-- whether operations, one after the other on these rows, touch an interval
abbrev pub touches : List TableDef → Interval → Rows → List RowOp → Bool
touches tables interval rows [] = false
touches tables interval rows (o ∷ ops) = op_touches tables interval rows o || touches tables interval (apply rows o) ops
