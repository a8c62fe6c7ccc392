use Rattle.std.proofs.Common.{◌≡◌, map, drop}
use Rattle.std.specs.List.{list_any}
use Rattle.sql_grammar.specs.Views.{condition_in}
use Rattle.sql_bind.specs.Faults.{cond_differs}
use Rattle.sql_bind.specs.Seen.{visible_in}
use Rattle.sql_bind.proofs.kinds.+condition_differs.Given as goal

abbrev pub invariant-parts : goal.invariant-parts
invariant-parts l = list_any (cond_differs (map visible_in l.scope)) (map condition_in (drop l.part-index l.part-items)) ≡ list_any (cond_differs (map visible_in l.scope)) (map condition_in l.part-items)

abbrev pub invariant-parts-2 : goal.invariant-parts-2
invariant-parts-2 l = list_any (cond_differs (map visible_in l.scope)) (map condition_in (drop l.part-index l.part-items)) ≡ list_any (cond_differs (map visible_in l.scope)) (map condition_in l.part-items)
