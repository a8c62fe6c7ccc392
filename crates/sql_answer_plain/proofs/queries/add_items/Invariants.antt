-- the versions so far, before those of the rows that are left, are those of all
use Rattle.std.proofs.Common.{◌≡◌, ◌++◌, length}
use Rattle.sql_answer.specs.Answers.{combination_items}
use Rattle.sql_answer_plain.specs.Views.{all_seen_in}
use Rattle.sql_answer_plain.proofs.queries.add_items.Given as goal

abbrev pub invariant-tables : goal.invariant-tables
invariant-tables l =
    l.items ++ combination_items l.rest (all_seen_in l.rows) ≡ l.initial.items ++ combination_items l.tables (all_seen_in l.combination)

abbrev pub decreases-tables : goal.decreases-tables
decreases-tables l = length l.rest
