-- the rows so far, before those that are left, are all
use Rattle.std.proofs.Common.{◌≡◌, ◌++◌}
use Rattle.std.specs.Vec.Iter.{into_iter_items}
use Rattle.sql_answer.specs.Combinations.{rows_of}
use Rattle.sql_eval.specs.Views.{rows_in}
use Rattle.sql_answer_plain.specs.Views.{all_seen_in}
use Rattle.sql_answer_plain.proofs.queries.as_versions.Given as goal

abbrev pub invariant-rows : goal.invariant-rows
invariant-rows l = rows_in l.versions ++ rows_of (all_seen_in (into_iter_items l.seen-iterator)) ≡ rows_of (all_seen_in l.fn.rows)
