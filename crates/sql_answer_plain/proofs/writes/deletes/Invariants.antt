-- the writes so far, before those of the rows that are left, are those of all
use Rattle.std.proofs.Common.{◌≡◌, ◌++◌, map}
use Rattle.std.specs.Vec.Iter.{into_iter_items}
use Rattle.sql_answer.specs.Answers.{deleting}
use Rattle.sql_answer_plain.specs.Views.{all_seen_in}
use Rattle.sql_answer_plain.proofs.writes.deletes.Given as goal

abbrev pub invariant-rows : goal.invariant-rows
invariant-rows l = l.writes ++ map (deleting l.table) (all_seen_in (into_iter_items l.seen-iterator)) ≡ map (deleting l.table) (all_seen_in l.fn.rows)
