-- What a condition of the code says, by its outermost part.
use Rattle.std.proofs.Common.{◌≡◌, Bool, map, sym, ap, ◌∙◌, Box, Global}
use Rattle.sql_grammar.specs.declared.seq.Seq.{Seq}
use Rattle.sql_bind.specs.Bound.{Cond, AnyOf, AllOf, NotOf, Grouped, Compares, TestsNull, conds}
use Rattle.sql_bind.specs.Views.{level, cond_in}
use Rattle.sql_bind.specs.declared.types.BoundOperand.{BoundOperand}
use Rattle.sql_bind.specs.declared.types.Cmp.{Cmp}
use Rattle.sql_bind.specs.declared.types.Condition.{Condition}
use Rattle.sql_bind.specs.declared.types.Condition as code
use Rattle.sql_bind.specs.declared.types.Condition.{fold-Condition, fold-roll-Condition}
use Rattle.sql_bind.specs.declared.types.Condition.TheOpen.{Condition-F}
use Rattle.sql_bind.specs.declared.types.Condition.TheVariants.{rolls-Or, rolls-And, rolls-Not, rolls-Group, rolls-Compare, rolls-IsNull}

pub seen_or : (s : Seq Condition) → cond_in (code.Or s) ≡ AnyOf (conds (map cond_in s.items.items))
unfolding cond_in
seen_or s = ap (fold-Condition Cond level) (sym (rolls-Or s)) ∙ fold-roll-Condition Cond level (Condition-F.Or s)

pub seen_and : (s : Seq Condition) → cond_in (code.And s) ≡ AllOf (conds (map cond_in s.items.items))
unfolding cond_in
seen_and s = ap (fold-Condition Cond level) (sym (rolls-And s)) ∙ fold-roll-Condition Cond level (Condition-F.And s)

pub seen_not : (b : Box Condition Global) → cond_in (code.Not b) ≡ NotOf (cond_in b.value)
unfolding cond_in
seen_not b = ap (fold-Condition Cond level) (sym (rolls-Not b)) ∙ fold-roll-Condition Cond level (Condition-F.Not b)

pub seen_group : (b : Box Condition Global) → cond_in (code.Group b) ≡ Grouped (cond_in b.value)
unfolding cond_in
seen_group b = ap (fold-Condition Cond level) (sym (rolls-Group b)) ∙ fold-roll-Condition Cond level (Condition-F.Group b)

pub seen_compare : (op : Cmp) (left right : BoundOperand) → cond_in (code.Compare op left right) ≡ Compares op left right
unfolding cond_in
seen_compare op left right = ap (fold-Condition Cond level) (sym (rolls-Compare op left right)) ∙ fold-roll-Condition Cond level (Condition-F.Compare op left right)

pub seen_null : (side : BoundOperand) (negated : Bool) → cond_in (code.IsNull side negated) ≡ TestsNull side negated
unfolding cond_in
seen_null side negated = ap (fold-Condition Cond level) (sym (rolls-IsNull side negated)) ∙ fold-roll-Condition Cond level (Condition-F.IsNull side negated)
