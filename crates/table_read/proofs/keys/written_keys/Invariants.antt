use Rattle.std.proofs.Common.{◌≡◌, ◌++◌, length, map, flat_map}
use Rattle.sql_grammar.specs.Views.{part_in}
use Rattle.table_read.specs.Keys.{keys_of_part}
use Rattle.table_read.proofs.keys.written_keys.Given as goal

abbrev pub invariant-parts : goal.invariant-parts
invariant-parts l = l.keys ++ flat_map keys_of_part (map part_in l.rest) ≡ flat_map keys_of_part (map part_in l.parts)

abbrev pub decreases-parts : goal.decreases-parts
decreases-parts l = length l.rest
