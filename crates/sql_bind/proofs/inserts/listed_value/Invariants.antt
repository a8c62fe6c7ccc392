use Rattle.std.proofs.Common.{◌≡◌, map, length}
use Rattle.sql_grammar.specs.Views.{name_in, literal_in}
use Rattle.sql_bind.specs.Meaning.{listed_value}
use Rattle.sql_bind.proofs.inserts.listed_value.Given as goal

abbrev pub invariant-values : goal.invariant-values
invariant-values l = listed_value (map name_in l.names_left) (map literal_in l.rest) l.column.name ≡ listed_value (map name_in l.names) (map literal_in l.tuple) l.column.name

abbrev pub decreases-values : goal.decreases-values
decreases-values l = length l.rest
