use Rattle.std.proofs.Common.{◌≡◌, ◌++◌, length, map}
use Rattle.sql_grammar.specs.Views.{part_in}
use Rattle.table_read.specs.Tables.{columns_with}
use Rattle.table_read.proofs.columns.columns.Given as goal

abbrev pub invariant-parts : goal.invariant-parts
invariant-parts l = l.columns ++ columns_with l.keys (map part_in l.rest) ≡ columns_with l.keys (map part_in l.parts)

abbrev pub decreases-parts : goal.decreases-parts
decreases-parts l = length l.rest
