-- the truth so far, with the parts that are left, is that of the whole
use Rattle.std.proofs.Common.{◌≡◌, map, drop}
use Rattle.sql_bind.specs.Bound.{conds}
use Rattle.sql_bind.specs.Views.{cond_in}
use Rattle.sql_answer.specs.Conditions.{any_from, all_from}
use Rattle.sql_answer.specs.Truth.{No, Yes}
use Rattle.sql_eval.specs.Views.{truth_in, rows_in}
use Rattle.sql_eval.proofs.conditions.+test.Given as goal

abbrev pub invariant-alternatives : goal.invariant-alternatives
invariant-alternatives l =
    any_from (truth_in l.value) (conds (map cond_in (drop l.part-index l.part-items))) (rows_in l.rows)
    ≡ any_from No (conds (map cond_in l.part-items)) (rows_in l.rows)

abbrev pub invariant-parts : goal.invariant-parts
invariant-parts l =
    all_from (truth_in l.value) (conds (map cond_in (drop l.part-index l.part-items))) (rows_in l.rows)
    ≡ all_from Yes (conds (map cond_in l.part-items)) (rows_in l.rows)
