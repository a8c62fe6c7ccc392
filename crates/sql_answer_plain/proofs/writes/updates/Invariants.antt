-- the writes so far, before those of the rows that are left, are those of all
use Rattle.std.proofs.Common.{◌≡◌, ◌++◌}
use Rattle.std.specs.List.{filter_map}
use Rattle.std.specs.Vec.Iter.{into_iter_items}
use Rattle.sql_answer.specs.Answers.{updating}
use Rattle.sql_answer_plain.specs.Views.{all_seen_in}
use Rattle.sql_answer_plain.proofs.writes.updates.Given as goal

abbrev pub invariant-rows : goal.invariant-rows
invariant-rows l =
    l.writes ++ filter_map (updating l.table l.assigns) (all_seen_in (into_iter_items l.seen-iterator)) ≡ filter_map (updating l.table l.assigns) (all_seen_in l.fn.rows)
