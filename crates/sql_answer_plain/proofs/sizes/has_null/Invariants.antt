-- the columns so far have no NULL that they refuse
use Rattle.std.proofs.Common.{◌≡◌, length}
use Rattle.sql_answer.specs.Writes.{has_null}
use Rattle.sql_answer_plain.proofs.sizes.has_null.Given as goal

abbrev pub invariant-columns : goal.invariant-columns
invariant-columns l = has_null l.rest l.values ≡ has_null l.columns l.row

abbrev pub decreases-columns : goal.decreases-columns
decreases-columns l = length l.rest
