use Rattle.std.proofs.Common.{◌≡◌, ◌++◌, map, drop}
use Rattle.sql_grammar.specs.Views.{column_in}
use Rattle.sql_bind.specs.Scope.{meant}
use Rattle.sql_bind.specs.Seen.{visible_in}
use Rattle.sql_bind.proofs.queries.columns.Given as goal

abbrev pub invariant-names : goal.invariant-names
invariant-names l = l.bound ++ map (meant (map visible_in l.scope)) (map column_in (drop l.name-index l.names)) ≡ map (meant (map visible_in l.scope)) (map column_in l.names)
