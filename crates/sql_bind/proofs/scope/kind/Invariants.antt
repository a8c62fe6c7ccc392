use Rattle.std.proofs.Common.{◌≡◌, map, drop}
use Rattle.sql_grammar.specs.Views.{column_in}
use Rattle.sql_bind.specs.Scope.{kind_meant}
use Rattle.sql_bind.specs.Seen.{visible_in}
use Rattle.sql_bind.proofs.scope.kind.Given as goal

abbrev pub invariant-tables : goal.invariant-tables
invariant-tables l = kind_meant (map visible_in (drop l.table-index l.scope)) (column_in l.name) ≡ kind_meant (map visible_in l.scope) (column_in l.name)
