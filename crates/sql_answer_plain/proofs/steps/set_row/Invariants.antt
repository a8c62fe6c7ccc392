-- the row so far, with the columns that are left, is that of all
use Rattle.std.proofs.Common.{◌≡◌, [], ◌∷◌, length}
use Rattle.sql_answer.specs.Writes.{set_from, set_row}
use Rattle.sql_answer_plain.proofs.steps.set_row.Given as goal

abbrev pub invariant-assigns : goal.invariant-assigns
invariant-assigns l = set_from (l.row ∷ []) l.rest l.new ≡ set_row l.assigns l.row

abbrev pub decreases-assigns : goal.decreases-assigns
decreases-assigns l = length l.rest
