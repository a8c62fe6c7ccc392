-- the combinations so far, before those that are left, are all
use Rattle.std.proofs.Common.{◌≡◌, ◌++◌, map}
use Rattle.std.specs.Vec.Iter.{into_iter_items}
use Rattle.sql_answer.specs.Combinations.{rows_of}
use Rattle.sql_eval.specs.Views.{rows_in}
use Rattle.sql_answer_plain.specs.Views.{combinations_in}
use Rattle.sql_answer_plain.proofs.queries.all_versions.Given as goal

abbrev pub invariant-combinations : goal.invariant-combinations
invariant-combinations l =
    map rows_in l.all ++ map rows_of (combinations_in (into_iter_items l.combination-iterator)) ≡ map rows_of (combinations_in l.fn.combinations)
