-- the rows so far, before those that are left, are all
use Rattle.std.proofs.Common.{◌≡◌, ◌++◌, map, length}
use Rattle.std.specs.Prelude.{Some}
use Rattle.sql_answer_plain.proofs.writes.each_made.Given as goal

abbrev pub invariant-rows : goal.invariant-rows
invariant-rows l = l.made ++ map (λ row. Some row) l.rest ≡ map (λ row. Some row) l.rows

abbrev pub decreases-rows : goal.decreases-rows
decreases-rows l = length l.rest
