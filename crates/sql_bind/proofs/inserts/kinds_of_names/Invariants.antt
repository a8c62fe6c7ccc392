use Rattle.std.proofs.Common.{◌≡◌, ◌++◌, ◌∷◌, [], map, drop}
use Rattle.sql_grammar.specs.Views.{name_in}
use Rattle.sql_bind.specs.Faults.{own_column}
use Rattle.sql_bind.specs.Scope.{kind_meant}
use Rattle.sql_bind.specs.Seen.{visible_in}
use Rattle.sql_bind.proofs.inserts.kinds_of_names.Given as goal

abbrev pub invariant-names : goal.invariant-names
invariant-names l = l.kinds.items ++ map (λ name. kind_meant (visible_in l.table ∷ []) (own_column name)) (map name_in (drop l.name-index l.names)) ≡ map (λ name. kind_meant (visible_in l.table ∷ []) (own_column name)) (map name_in l.names)
