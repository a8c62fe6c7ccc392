-- the versions so far, before those of the combinations that are left, are those of all
use Rattle.std.proofs.Common.{◌≡◌, ◌++◌, length}
use Rattle.std.specs.List.{flat_map}
use Rattle.sql_answer.specs.Answers.{combination_items}
use Rattle.sql_answer_plain.specs.Views.{combinations_in}
use Rattle.sql_answer_plain.proofs.queries.all_items.Given as goal

abbrev pub invariant-combinations : goal.invariant-combinations
invariant-combinations l =
    l.items ++ flat_map (combination_items l.tables) (combinations_in l.rest) ≡ flat_map (combination_items l.tables) (combinations_in l.combinations)

abbrev pub decreases-combinations : goal.decreases-combinations
decreases-combinations l = length l.rest
