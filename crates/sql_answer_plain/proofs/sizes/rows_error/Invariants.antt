-- the rows so far have no error
use Rattle.std.proofs.Common.{◌≡◌, length}
use Rattle.std.specs.Option.{option_copied}
use Rattle.sql_answer.specs.Writes.{rows_error}
use Rattle.sql_answer_plain.proofs.sizes.rows_error.Given as goal

abbrev pub invariant-rows : goal.invariant-rows
invariant-rows l = rows_error (option_copied l.table) l.rest ≡ rows_error (option_copied l.table) l.rows

abbrev pub decreases-rows : goal.decreases-rows
decreases-rows l = length l.rest
