use Rattle.std.proofs.Common.{◌≡◌, ◌++◌, map, drop}
use Rattle.sql_grammar.specs.Views.{literal_in}
use Rattle.sql_bind.specs.Meaning.{value_of}
use Rattle.sql_bind.proofs.inserts.values.Given as goal

abbrev pub invariant-values : goal.invariant-values
invariant-values l = l.row ++ map value_of (map literal_in (drop l.literal-index l.tuple)) ≡ map value_of (map literal_in l.tuple)
