-- Each part of a condition is tested as its parts are.
use Rattle.std.proofs.Common.{map, sym, ap, ◌∙◌}
use Rattle.std.specs.List.{list_any}
use Rattle.sql_grammar.specs.Views.{condition_in, operand_in}
use Rattle.sql_bind.specs.Faults.{cond_differs, differ, side_kind}
use Rattle.sql_bind.specs.Seen.{visible_in}
use Rattle.sql_bind.proofs.ListLemmas.{any_stops, any_ends}
use Rattle.sql_bind.proofs.LevelLemmas.{written_not, written_group, written_compare, written_null}
use Rattle.sql_bind.proofs.PartLemmas.{differ_or, differ_and}
use Rattle.sql_bind.proofs.kinds.+condition_differs.Goals as goal

pub returns-then-condition_differs : goal.returns-then-condition_differs
returns-then-condition_differs t c =
    any_stops (cond_differs (map visible_in c.args.scope.now)) condition_in c.as_slice-part-items.result.now c.parts.part-index c.part-item.result c.parts-test.true c.part-item.is (sym c.condition_differs.ensures ∙ c.if-condition_differs.true) c.parts.invariant
    ∙ ap (λ xs. list_any (cond_differs (map visible_in c.args.scope.now)) (map condition_in xs)) c.as_slice-part-items.ensures
    ∙ sym (differ_or (map visible_in c.args.scope.now) c.args.test.now c.in-Or.parts c.in-Or.is)

pub returns-after-parts : goal.returns-after-parts
returns-after-parts t c =
    any_ends (cond_differs (map visible_in c.args.scope.now)) condition_in c.as_slice-part-items.result.now c.parts.part-index c.parts-test.false c.parts.invariant
    ∙ ap (λ xs. list_any (cond_differs (map visible_in c.args.scope.now)) (map condition_in xs)) c.as_slice-part-items.ensures
    ∙ sym (differ_or (map visible_in c.args.scope.now) c.args.test.now c.in-Or.parts c.in-Or.is)

pub returns-then-condition_differs-2 : goal.returns-then-condition_differs-2
returns-then-condition_differs-2 t c =
    any_stops (cond_differs (map visible_in c.args.scope.now)) condition_in c.as_slice-part-items-in-And.result.now c.parts-2.part-index c.part-item-in-parts-2.result c.parts-2-test.true c.part-item-in-parts-2.is (sym c.condition_differs-in-parts-2.ensures ∙ c.if-condition_differs-2.true) c.parts-2.invariant
    ∙ ap (λ xs. list_any (cond_differs (map visible_in c.args.scope.now)) (map condition_in xs)) c.as_slice-part-items-in-And.ensures
    ∙ sym (differ_and (map visible_in c.args.scope.now) c.args.test.now c.in-And.parts c.in-And.is)

pub returns-after-parts-2 : goal.returns-after-parts-2
returns-after-parts-2 t c =
    any_ends (cond_differs (map visible_in c.args.scope.now)) condition_in c.as_slice-part-items-in-And.result.now c.parts-2.part-index c.parts-2-test.false c.parts-2.invariant
    ∙ ap (λ xs. list_any (cond_differs (map visible_in c.args.scope.now)) (map condition_in xs)) c.as_slice-part-items-in-And.ensures
    ∙ sym (differ_and (map visible_in c.args.scope.now) c.args.test.now c.in-And.parts c.in-And.is)

pub returns-in-Not : goal.returns-in-Not
returns-in-Not t c =
    c.condition_differs-in-Not.ensures ∙ ap (λ x. cond_differs (map visible_in c.args.scope.now) (condition_in x)) c.deref.ensures
    ∙ sym (ap (λ x. cond_differs (map visible_in c.args.scope.now) (condition_in x)) c.in-Not.is ∙ ap (cond_differs (map visible_in c.args.scope.now)) (written_not c.in-Not.part))

pub returns-in-Group : goal.returns-in-Group
returns-in-Group t c =
    c.condition_differs-in-Group.ensures ∙ ap (λ x. cond_differs (map visible_in c.args.scope.now) (condition_in x)) c.deref-in-Group.ensures
    ∙ sym (ap (λ x. cond_differs (map visible_in c.args.scope.now) (condition_in x)) c.in-Group.is ∙ ap (cond_differs (map visible_in c.args.scope.now)) (written_group c.in-Group.part))

pub returns-in-Compare : goal.returns-in-Compare
returns-in-Compare t c =
    c.differ.ensures
    ∙ ap (λ k. differ k c.kind_of_operand-in-Compare.result) c.kind_of_operand.ensures
    ∙ ap (λ k. differ (side_kind (map visible_in c.args.scope.now) (operand_in c.in-Compare.left)) k) c.kind_of_operand-in-Compare.ensures
    ∙ sym (ap (λ x. cond_differs (map visible_in c.args.scope.now) (condition_in x)) c.in-Compare.is ∙ ap (cond_differs (map visible_in c.args.scope.now)) (written_compare c.in-Compare.op c.in-Compare.left c.in-Compare.right))

pub returns-in-IsNull : goal.returns-in-IsNull
returns-in-IsNull t c =
    sym (ap (λ x. cond_differs (map visible_in c.args.scope.now) (condition_in x)) c.in-IsNull.is ∙ ap (cond_differs (map visible_in c.args.scope.now)) (written_null c.in-IsNull.side c.in-IsNull.negated))
