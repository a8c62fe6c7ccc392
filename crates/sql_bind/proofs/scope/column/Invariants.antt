use Rattle.std.proofs.Common.{◌≡◌, map, drop}
use Rattle.sql_grammar.specs.Views.{column_in}
use Rattle.sql_bind.specs.Scope.{meant_from}
use Rattle.sql_bind.specs.Seen.{visible_in}
use Rattle.sql_bind.proofs.scope.column.Given as goal

abbrev pub invariant-tables : goal.invariant-tables
invariant-tables l = meant_from l.place (map visible_in (drop l.place l.scope)) (column_in l.name) ≡ meant_from 0 (map visible_in l.scope) (column_in l.name)
