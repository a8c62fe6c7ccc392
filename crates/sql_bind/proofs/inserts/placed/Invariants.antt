use Rattle.std.proofs.Common.{◌≡◌, ◌++◌, map, drop}
use Rattle.sql_grammar.specs.Views.{name_in, literal_in}
use Rattle.sql_bind.specs.Meaning.{listed_value}
use Rattle.sql_bind.proofs.inserts.placed.Given as goal

abbrev pub invariant-columns : goal.invariant-columns
invariant-columns l = l.row ++ map (λ column. listed_value (map name_in l.names) (map literal_in l.tuple) column.name) (drop l.column-index l.columns)
    ≡ map (λ column. listed_value (map name_in l.names) (map literal_in l.tuple) column.name) l.columns
