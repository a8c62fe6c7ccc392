use Rattle.std.proofs.Common.{◌≡◌, ◌++◌, map, drop}
use Rattle.sql_grammar.specs.Views.{condition_in}
use Rattle.sql_bind.specs.Meaning.{bound_cond}
use Rattle.sql_bind.specs.Seen.{visible_in}
use Rattle.sql_bind.specs.Views.{cond_in}
use Rattle.sql_bind.proofs.conditions.+condition.Given as goal

abbrev pub invariant-parts : goal.invariant-parts
invariant-parts l = map cond_in l.bound.items ++ map (bound_cond (map visible_in l.scope)) (map condition_in (drop l.part-index l.part-items)) ≡ map (bound_cond (map visible_in l.scope)) (map condition_in l.part-items)

abbrev pub invariant-parts-2 : goal.invariant-parts-2
invariant-parts-2 l = map cond_in l.bound.items ++ map (bound_cond (map visible_in l.scope)) (map condition_in (drop l.part-index l.part-items)) ≡ map (bound_cond (map visible_in l.scope)) (map condition_in l.part-items)
