-- Each part of a condition is tested as its parts are.
use Rattle.std.proofs.Common.{◌||◌, map, sym, ap, ◌∙◌}
use Rattle.std.specs.List.{list_any}
use Rattle.std.proofs.lemmas.List.Folds.{list_any-append}
use Rattle.sql_grammar.specs.Views.{condition_in, operand_in}
use Rattle.sql_bind.specs.Faults.{side_columns}
use Rattle.sql_bind.specs.Seen.{visible_in, doubted, doubts_cond}
use Rattle.sql_bind.proofs.ListLemmas.{any_stops, any_ends}
use Rattle.sql_bind.proofs.LevelLemmas.{written_not, written_group, written_compare, written_null}
use Rattle.sql_bind.proofs.PartLemmas.{doubts_or, doubts_and}
use Rattle.sql_bind.proofs.columns.+condition_has_doubt.Goals as goal

pub returns-then-condition_has_doubt : goal.returns-then-condition_has_doubt
returns-then-condition_has_doubt t c =
    any_stops (doubts_cond (map visible_in c.args.scope.now) c.args.doubt) condition_in c.as_slice-part-items.result.now c.parts.part-index c.part-item.result c.parts-test.true c.part-item.is (sym c.condition_has_doubt.ensures ∙ c.if-condition_has_doubt.true) c.parts.invariant
    ∙ ap (λ xs. list_any (doubts_cond (map visible_in c.args.scope.now) c.args.doubt) (map condition_in xs)) c.as_slice-part-items.ensures
    ∙ sym (doubts_or (map visible_in c.args.scope.now) c.args.doubt c.args.test.now c.in-Or.parts c.in-Or.is)

pub returns-after-parts : goal.returns-after-parts
returns-after-parts t c =
    any_ends (doubts_cond (map visible_in c.args.scope.now) c.args.doubt) condition_in c.as_slice-part-items.result.now c.parts.part-index c.parts-test.false c.parts.invariant
    ∙ ap (λ xs. list_any (doubts_cond (map visible_in c.args.scope.now) c.args.doubt) (map condition_in xs)) c.as_slice-part-items.ensures
    ∙ sym (doubts_or (map visible_in c.args.scope.now) c.args.doubt c.args.test.now c.in-Or.parts c.in-Or.is)

pub returns-then-condition_has_doubt-2 : goal.returns-then-condition_has_doubt-2
returns-then-condition_has_doubt-2 t c =
    any_stops (doubts_cond (map visible_in c.args.scope.now) c.args.doubt) condition_in c.as_slice-part-items-in-And.result.now c.parts-2.part-index c.part-item-in-parts-2.result c.parts-2-test.true c.part-item-in-parts-2.is (sym c.condition_has_doubt-in-parts-2.ensures ∙ c.if-condition_has_doubt-2.true) c.parts-2.invariant
    ∙ ap (λ xs. list_any (doubts_cond (map visible_in c.args.scope.now) c.args.doubt) (map condition_in xs)) c.as_slice-part-items-in-And.ensures
    ∙ sym (doubts_and (map visible_in c.args.scope.now) c.args.doubt c.args.test.now c.in-And.parts c.in-And.is)

pub returns-after-parts-2 : goal.returns-after-parts-2
returns-after-parts-2 t c =
    any_ends (doubts_cond (map visible_in c.args.scope.now) c.args.doubt) condition_in c.as_slice-part-items-in-And.result.now c.parts-2.part-index c.parts-2-test.false c.parts-2.invariant
    ∙ ap (λ xs. list_any (doubts_cond (map visible_in c.args.scope.now) c.args.doubt) (map condition_in xs)) c.as_slice-part-items-in-And.ensures
    ∙ sym (doubts_and (map visible_in c.args.scope.now) c.args.doubt c.args.test.now c.in-And.parts c.in-And.is)

pub returns-in-Not : goal.returns-in-Not
returns-in-Not t c =
    c.condition_has_doubt-in-Not.ensures ∙ ap (λ x. doubts_cond (map visible_in c.args.scope.now) c.args.doubt (condition_in x)) c.deref.ensures
    ∙ sym (ap (λ x. doubts_cond (map visible_in c.args.scope.now) c.args.doubt (condition_in x)) c.in-Not.is ∙ ap (doubts_cond (map visible_in c.args.scope.now) c.args.doubt) (written_not c.in-Not.part))

pub returns-in-Group : goal.returns-in-Group
returns-in-Group t c =
    c.condition_has_doubt-in-Group.ensures ∙ ap (λ x. doubts_cond (map visible_in c.args.scope.now) c.args.doubt (condition_in x)) c.deref-in-Group.ensures
    ∙ sym (ap (λ x. doubts_cond (map visible_in c.args.scope.now) c.args.doubt (condition_in x)) c.in-Group.is ∙ ap (doubts_cond (map visible_in c.args.scope.now) c.args.doubt) (written_group c.in-Group.part))

pub returns-then-operand_has_doubt : goal.returns-then-operand_has_doubt
returns-then-operand_has_doubt t c =
    c.if-operand_has_doubt.true
    ∙ ap (λ b. b || list_any (doubted (map visible_in c.args.scope.now) c.args.doubt) (side_columns (operand_in c.in-Compare.right))) (sym c.if-operand_has_doubt.true ∙ c.operand_has_doubt.ensures)
    ∙ sym (list_any-append (doubted (map visible_in c.args.scope.now) c.args.doubt) (side_columns (operand_in c.in-Compare.left)) (side_columns (operand_in c.in-Compare.right)))
    ∙ sym (ap (λ x. doubts_cond (map visible_in c.args.scope.now) c.args.doubt (condition_in x)) c.in-Compare.is ∙ ap (doubts_cond (map visible_in c.args.scope.now) c.args.doubt) (written_compare c.in-Compare.op c.in-Compare.left c.in-Compare.right))

pub returns-else-operand_has_doubt : goal.returns-else-operand_has_doubt
returns-else-operand_has_doubt t c =
    c.operand_has_doubt-else-operand_has_doubt.ensures
    ∙ ap (λ b. b || list_any (doubted (map visible_in c.args.scope.now) c.args.doubt) (side_columns (operand_in c.in-Compare.right))) (sym c.if-operand_has_doubt.false ∙ c.operand_has_doubt.ensures)
    ∙ sym (list_any-append (doubted (map visible_in c.args.scope.now) c.args.doubt) (side_columns (operand_in c.in-Compare.left)) (side_columns (operand_in c.in-Compare.right)))
    ∙ sym (ap (λ x. doubts_cond (map visible_in c.args.scope.now) c.args.doubt (condition_in x)) c.in-Compare.is ∙ ap (doubts_cond (map visible_in c.args.scope.now) c.args.doubt) (written_compare c.in-Compare.op c.in-Compare.left c.in-Compare.right))

pub returns-in-IsNull : goal.returns-in-IsNull
returns-in-IsNull t c =
    c.operand_has_doubt-in-IsNull.ensures
    ∙ sym (ap (λ x. doubts_cond (map visible_in c.args.scope.now) c.args.doubt (condition_in x)) c.in-IsNull.is ∙ ap (doubts_cond (map visible_in c.args.scope.now) c.args.doubt) (written_null c.in-IsNull.side c.in-IsNull.negated))
