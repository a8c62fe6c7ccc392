use Rattle.std.proofs.Common.{◌≡◌, map, length}
use Rattle.sql_grammar.specs.Views.{literal_in}
use Rattle.sql_bind.specs.Faults.{tuple_differs}
use Rattle.sql_bind.proofs.kinds.tuple_is_wrong.Given as goal

abbrev pub invariant-values : goal.invariant-values
invariant-values l = tuple_differs l.kinds_left (map literal_in l.rest) ≡ tuple_differs l.kinds (map literal_in l.tuple)

abbrev pub decreases-values : goal.decreases-values
decreases-values l = length l.rest
