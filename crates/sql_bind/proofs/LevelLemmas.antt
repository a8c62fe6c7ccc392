-- A condition by its outermost part: as it is written, and as it is bound.
use Rattle.std.proofs.Common.{◌≡◌, Bool, map, sym, ap, ◌∙◌, Box, Global}
use Rattle.sql_grammar.specs.declared.seq.Seq.{Seq}
use Rattle.sql_grammar.specs.declared.types.Operand.{Operand}
use Rattle.sql_grammar.specs.declared.types.Comparison.{Comparison}
use Rattle.sql_grammar.specs.declared.types.Test.{Test, fold-Test, fold-roll-Test}
use Rattle.sql_grammar.specs.declared.types.Test as tests
use Rattle.sql_grammar.specs.declared.types.Test.TheOpen.{Test-F}
use Rattle.sql_grammar.specs.declared.types.Test.TheVariants as rolls
use Rattle.sql_grammar.specs.Trees as written
use Rattle.sql_grammar.specs.Views as writing
use Rattle.sql_grammar.specs.Views.{condition_in, operand_in}
use Rattle.sql_bind.specs.declared.types.BoundOperand.{BoundOperand}
use Rattle.sql_bind.specs.declared.types.Cmp.{Cmp}
use Rattle.sql_bind.specs.declared.types.Condition.{Condition, fold-Condition, fold-roll-Condition}
use Rattle.sql_bind.specs.declared.types.Condition as conditions
use Rattle.sql_bind.specs.declared.types.Condition.TheOpen.{Condition-F}
use Rattle.sql_bind.specs.declared.types.Condition.TheVariants as bound_rolls
use Rattle.sql_bind.specs.Bound.{Cond, AnyOf, AllOf, NotOf, Grouped, Compares, TestsNull, conds}
use Rattle.sql_bind.specs.Views.{level, cond_in}

pub written_or : (s : Seq Test) → condition_in (tests.Or s) ≡ written.AnyOf (written.conds (map condition_in s.items.items))
unfolding condition_in
written_or s = ap (fold-Test written.Cond writing.level) (sym (rolls.rolls-Or s)) ∙ fold-roll-Test written.Cond writing.level (Test-F.Or s)

pub written_and : (s : Seq Test) → condition_in (tests.And s) ≡ written.AllOf (written.conds (map condition_in s.items.items))
unfolding condition_in
written_and s = ap (fold-Test written.Cond writing.level) (sym (rolls.rolls-And s)) ∙ fold-roll-Test written.Cond writing.level (Test-F.And s)

pub written_not : (b : Box Test Global) → condition_in (tests.Not b) ≡ written.NotOf (condition_in b.value)
unfolding condition_in
written_not b = ap (fold-Test written.Cond writing.level) (sym (rolls.rolls-Not b)) ∙ fold-roll-Test written.Cond writing.level (Test-F.Not b)

pub written_group : (b : Box Test Global) → condition_in (tests.Group b) ≡ written.Grouped (condition_in b.value)
unfolding condition_in
written_group b = ap (fold-Test written.Cond writing.level) (sym (rolls.rolls-Group b)) ∙ fold-roll-Test written.Cond writing.level (Test-F.Group b)

pub written_compare : (s : Comparison) (a b : Operand) → condition_in (tests.Compare s a b) ≡ written.Compares s (operand_in a) (operand_in b)
unfolding condition_in
written_compare s a b = ap (fold-Test written.Cond writing.level) (sym (rolls.rolls-Compare s a b)) ∙ fold-roll-Test written.Cond writing.level (Test-F.Compare s a b)

pub written_null : (a : Operand) (negated : Bool) → condition_in (tests.IsNull a negated) ≡ written.TestsNull (operand_in a) negated
unfolding condition_in
written_null a negated = ap (fold-Test written.Cond writing.level) (sym (rolls.rolls-IsNull a negated)) ∙ fold-roll-Test written.Cond writing.level (Test-F.IsNull a negated)

pub bound_or : (s : Seq Condition) → cond_in (conditions.Or s) ≡ AnyOf (conds (map cond_in s.items.items))
unfolding cond_in
bound_or s = ap (fold-Condition Cond level) (sym (bound_rolls.rolls-Or s)) ∙ fold-roll-Condition Cond level (Condition-F.Or s)

pub bound_and : (s : Seq Condition) → cond_in (conditions.And s) ≡ AllOf (conds (map cond_in s.items.items))
unfolding cond_in
bound_and s = ap (fold-Condition Cond level) (sym (bound_rolls.rolls-And s)) ∙ fold-roll-Condition Cond level (Condition-F.And s)

pub bound_not : (b : Box Condition Global) → cond_in (conditions.Not b) ≡ NotOf (cond_in b.value)
unfolding cond_in
bound_not b = ap (fold-Condition Cond level) (sym (bound_rolls.rolls-Not b)) ∙ fold-roll-Condition Cond level (Condition-F.Not b)

pub bound_group : (b : Box Condition Global) → cond_in (conditions.Group b) ≡ Grouped (cond_in b.value)
unfolding cond_in
bound_group b = ap (fold-Condition Cond level) (sym (bound_rolls.rolls-Group b)) ∙ fold-roll-Condition Cond level (Condition-F.Group b)

pub bound_compare : (op : Cmp) (a b : BoundOperand) → cond_in (conditions.Compare op a b) ≡ Compares op a b
unfolding cond_in
bound_compare op a b = ap (fold-Condition Cond level) (sym (bound_rolls.rolls-Compare op a b)) ∙ fold-roll-Condition Cond level (Condition-F.Compare op a b)

pub bound_null : (a : BoundOperand) (negated : Bool) → cond_in (conditions.IsNull a negated) ≡ TestsNull a negated
unfolding cond_in
bound_null a negated = ap (fold-Condition Cond level) (sym (bound_rolls.rolls-IsNull a negated)) ∙ fold-roll-Condition Cond level (Condition-F.IsNull a negated)
