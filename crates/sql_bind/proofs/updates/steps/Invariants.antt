use Rattle.std.proofs.Common.{◌≡◌, ◌++◌, map, drop}
use Rattle.sql_grammar.specs.Views.{change_in}
use Rattle.sql_bind.specs.Meaning.{bound_change}
use Rattle.sql_bind.specs.Seen.{visible_in}
use Rattle.sql_bind.proofs.updates.steps.Given as goal

abbrev pub invariant-steps : goal.invariant-steps
invariant-steps l = l.bound ++ map (bound_change (map visible_in l.scope)) (map change_in (drop l.step-index l.steps)) ≡ map (bound_change (map visible_in l.scope)) (map change_in l.steps)
