-- A condition is bound as its parts are.
use Rattle.std.proofs.Common.{map, sym, ap, ap₂, ◌∙◌}
use Rattle.sql_grammar.specs.Views.{condition_in}
use Rattle.sql_bind.specs.Bound.{AnyOf, AllOf, NotOf, Grouped, Compares, TestsNull, conds}
use Rattle.sql_bind.specs.Meaning.{bound_cond, cmp_of}
use Rattle.sql_bind.specs.Seen.{visible_in}
use Rattle.sql_bind.specs.Views.{cond_in}
use Rattle.sql_bind.proofs.ListLemmas.{all_made}
use Rattle.sql_bind.proofs.LevelLemmas.{written_not, written_group, written_compare, written_null, bound_or, bound_and, bound_not, bound_group, bound_compare, bound_null}
use Rattle.sql_bind.proofs.PartLemmas.{means_or, means_and}
use Rattle.sql_bind.proofs.conditions.+condition.Goals as goal

pub returns-after-parts : goal.returns-after-parts
returns-after-parts t c =
    bound_or c.from_vec.result
    ∙ ap (λ v. AnyOf (conds (map cond_in v.items))) c.from_vec.ensures
    ∙ ap (λ cs. AnyOf (conds cs)) (all_made (bound_cond (map visible_in c.args.scope.now)) condition_in (map cond_in c.parts.bound.items) c.as_slice-part-items.result.now c.parts.part-index c.parts-test.false c.parts.invariant)
    ∙ ap (λ xs. AnyOf (conds (map (bound_cond (map visible_in c.args.scope.now)) (map condition_in xs)))) c.as_slice-part-items.ensures
    ∙ sym (means_or (map visible_in c.args.scope.now) c.args.test.now c.in-Or.parts c.in-Or.is)

pub returns-after-parts-2 : goal.returns-after-parts-2
returns-after-parts-2 t c =
    bound_and c.from_vec-in-And.result
    ∙ ap (λ v. AllOf (conds (map cond_in v.items))) c.from_vec-in-And.ensures
    ∙ ap (λ cs. AllOf (conds cs)) (all_made (bound_cond (map visible_in c.args.scope.now)) condition_in (map cond_in c.parts-2.bound.items) c.as_slice-part-items-in-And.result.now c.parts-2.part-index c.parts-2-test.false c.parts-2.invariant)
    ∙ ap (λ xs. AllOf (conds (map (bound_cond (map visible_in c.args.scope.now)) (map condition_in xs)))) c.as_slice-part-items-in-And.ensures
    ∙ sym (means_and (map visible_in c.args.scope.now) c.args.test.now c.in-And.parts c.in-And.is)

pub returns-in_ok-new-in-Not : goal.returns-in_ok-new-in-Not
returns-in_ok-new-in-Not t c =
    bound_not c.in_ok-new-in-Not.field-0
    ∙ ap (λ x. NotOf (cond_in x)) c.in_ok-new-in-Not.ensures.ok
    ∙ ap NotOf (c.in_ok-condition-in-Not.ensures ∙ ap (λ x. bound_cond (map visible_in c.args.scope.now) (condition_in x)) c.deref.ensures)
    ∙ sym (ap (λ x. bound_cond (map visible_in c.args.scope.now) (condition_in x)) c.in-Not.is ∙ ap (bound_cond (map visible_in c.args.scope.now)) (written_not c.in-Not.part))

pub returns-in_ok-new-in-Group : goal.returns-in_ok-new-in-Group
returns-in_ok-new-in-Group t c =
    bound_group c.in_ok-new-in-Group.field-0
    ∙ ap (λ x. Grouped (cond_in x)) c.in_ok-new-in-Group.ensures.ok
    ∙ ap Grouped (c.in_ok-condition-in-Group.ensures ∙ ap (λ x. bound_cond (map visible_in c.args.scope.now) (condition_in x)) c.deref-in-Group.ensures)
    ∙ sym (ap (λ x. bound_cond (map visible_in c.args.scope.now) (condition_in x)) c.in-Group.is ∙ ap (bound_cond (map visible_in c.args.scope.now)) (written_group c.in-Group.part))

pub returns-in_ok-both-in-Compare : goal.returns-in_ok-both-in-Compare
returns-in_ok-both-in-Compare t c =
    bound_compare c.comparison.result c.in_ok-both-in-Compare.both.0 c.in_ok-both-in-Compare.both.1
    ∙ ap (λ op. Compares op c.in_ok-both-in-Compare.both.0 c.in_ok-both-in-Compare.both.1) c.comparison.ensures
    ∙ ap₂ (λ a b. Compares (cmp_of c.in-Compare.op) a b) c.in_ok-both-in-Compare.ensures.0 c.in_ok-both-in-Compare.ensures.1
    ∙ sym (ap (λ x. bound_cond (map visible_in c.args.scope.now) (condition_in x)) c.in-Compare.is ∙ ap (bound_cond (map visible_in c.args.scope.now)) (written_compare c.in-Compare.op c.in-Compare.left c.in-Compare.right))

pub returns-in_ok-operand-in-IsNull : goal.returns-in_ok-operand-in-IsNull
returns-in_ok-operand-in-IsNull t c =
    bound_null c.in_ok-operand-in-IsNull.field-0 c.in-IsNull.negated
    ∙ ap (λ a. TestsNull a c.in-IsNull.negated) c.in_ok-operand-in-IsNull.ensures
    ∙ sym (ap (λ x. bound_cond (map visible_in c.args.scope.now) (condition_in x)) c.in-IsNull.is ∙ ap (bound_cond (map visible_in c.args.scope.now)) (written_null c.in-IsNull.side c.in-IsNull.negated))
