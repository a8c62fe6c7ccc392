-- the rows so far, before those that are made of the ones that are left, are all
use Rattle.std.proofs.Common.{◌≡◌, ◌++◌, map, length}
use Rattle.sql_answer.specs.Writes.{set_row}
use Rattle.sql_answer_plain.specs.Views.{all_seen_in}
use Rattle.sql_answer_plain.proofs.writes.each_set.Given as goal

abbrev pub invariant-rows : goal.invariant-rows
invariant-rows l =
    l.made ++ map (λ s. set_row l.assigns s.row) (all_seen_in l.rest) ≡ map (λ s. set_row l.assigns s.row) (all_seen_in l.rows)

abbrev pub decreases-rows : goal.decreases-rows
decreases-rows l = length l.rest
