use Rattle.std.proofs.Common.{◌≡◌, ◌++◌, length, map}
use Rattle.sql_grammar.specs.Views.{name_in}
use Rattle.table_read.proofs.keys.names.Given as goal

abbrev pub invariant-names : goal.invariant-names
invariant-names l = l.copies ++ map name_in l.rest ≡ map name_in l.names

abbrev pub decreases-names : goal.decreases-names
decreases-names l = length l.rest
