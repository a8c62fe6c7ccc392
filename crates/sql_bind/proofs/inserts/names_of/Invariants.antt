use Rattle.std.proofs.Common.{◌≡◌, ◌++◌, map, drop}
use Rattle.sql_grammar.specs.Views.{name_in}
use Rattle.sql_bind.proofs.inserts.names_of.Given as goal

abbrev pub invariant-names : goal.invariant-names
invariant-names l = map (λ n. n.now) l.found.items ++ map name_in (drop l.name-index l.names) ≡ map name_in l.names
