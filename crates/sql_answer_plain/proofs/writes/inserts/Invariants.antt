-- the inserts so far, before those of the rows that are left, are those of all
use Rattle.std.proofs.Common.{◌≡◌, ◌++◌, map, length}
use Rattle.cdb_values.specs.declared.rows.RowOp.TheVariants as op
use Rattle.sql_answer_plain.proofs.writes.inserts.Given as goal

abbrev pub invariant-rows : goal.invariant-rows
invariant-rows l = l.writes ++ map (op.Insert l.table) l.rest ≡ map (op.Insert l.table) l.rows

abbrev pub decreases-rows : goal.decreases-rows
decreases-rows l = length l.rest
