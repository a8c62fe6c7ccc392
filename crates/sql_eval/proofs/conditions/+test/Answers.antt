use Rattle.std.proofs.Common.{List, map, sym, ap, ◌∙◌}
use Rattle.std.proofs.lemmas.List.{drop_all}
use Rattle.cdb_values.specs.declared.values.Value.{Value}
use Rattle.sql_bind.specs.Bound.{Cond, conds}
use Rattle.sql_bind.specs.Views.{cond_in}
use Rattle.sql_bind.specs.declared.types.Condition.{Condition}
use Rattle.sql_answer.specs.Truth.{No, Yes, not3, truth_of, compared}
use Rattle.sql_answer.specs.Conditions.{truth, any_from, all_from, tests_null}
use Rattle.sql_eval.specs.Views.{truth_in, rows_in}
use Rattle.sql_eval.proofs.LevelLaws.{seen_or, seen_and, seen_not, seen_group, seen_compare, seen_null}
use Rattle.sql_eval.proofs.conditions.+test.Goals as goal

pub returns-after-alternatives : goal.returns-after-alternatives
returns-after-alternatives t c =
    let rows : List (List Value) = rows_in c.args.rows.now in
    ap (λ (xs : List Condition). any_from (truth_in c.alternatives.value) (conds (map cond_in xs)) rows)
    (sym (drop_all c.alternatives.part-index c.as_slice-part-items.result.now c.alternatives-test.false))
    ∙ c.alternatives.invariant
    ∙ ap (λ (xs : List Condition). any_from No (conds (map cond_in xs)) rows) c.as_slice-part-items.ensures
    ∙ sym (ap (λ (k : Cond). truth k rows) (ap cond_in c.in-Or.is ∙ seen_or c.in-Or.parts))

pub returns-after-parts : goal.returns-after-parts
returns-after-parts t c =
    let rows : List (List Value) = rows_in c.args.rows.now in
    ap (λ (xs : List Condition). all_from (truth_in c.parts.value) (conds (map cond_in xs)) rows)
    (sym (drop_all c.parts.part-index c.as_slice-part-items-in-And.result.now c.parts-test.false))
    ∙ c.parts.invariant
    ∙ ap (λ (xs : List Condition). all_from Yes (conds (map cond_in xs)) rows) c.as_slice-part-items-in-And.ensures
    ∙ sym (ap (λ (k : Cond). truth k rows) (ap cond_in c.in-And.is ∙ seen_and c.in-And.parts))

pub returns-in-Not : goal.returns-in-Not
returns-in-Not t c =
    let rows : List (List Value) = rows_in c.args.rows.now in
    c.not3.ensures
    ∙ ap not3 (c.test-in-Not.ensures ∙ ap (λ (k : Condition). truth (cond_in k) rows) c.deref.ensures)
    ∙ sym (ap (λ (k : Cond). truth k rows) (ap cond_in c.in-Not.is ∙ seen_not c.in-Not.part))

pub returns-in-Group : goal.returns-in-Group
returns-in-Group t c =
    let rows : List (List Value) = rows_in c.args.rows.now in
    c.test-in-Group.ensures
    ∙ ap (λ (k : Condition). truth (cond_in k) rows) c.deref-in-Group.ensures
    ∙ sym (ap (λ (k : Cond). truth k rows) (ap cond_in c.in-Group.is ∙ seen_group c.in-Group.part))

pub returns-in-Compare : goal.returns-in-Compare
returns-in-Compare t c =
    let rows : List (List Value) = rows_in c.args.rows.now in
    c.compare_sides.ensures
    ∙ (λ i. compared c.in-Compare.op (c.operand_of.ensures i) (c.operand_of-in-Compare.ensures i))
    ∙ sym (ap (λ (k : Cond). truth k rows) (ap cond_in c.in-Compare.is ∙ seen_compare c.in-Compare.op c.in-Compare.left c.in-Compare.right))

pub returns-in-IsNull : goal.returns-in-IsNull
returns-in-IsNull t c =
    let rows : List (List Value) = rows_in c.args.rows.now in
    c.known.ensures
    ∙ ap truth_of (c.tests_null.ensures ∙ ap (tests_null c.in-IsNull.negated) c.operand_of-in-IsNull.ensures)
    ∙ sym (ap (λ (k : Cond). truth k rows) (ap cond_in c.in-IsNull.is ∙ seen_null c.in-IsNull.side c.in-IsNull.negated))
