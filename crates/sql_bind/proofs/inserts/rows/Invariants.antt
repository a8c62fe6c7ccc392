use Rattle.std.proofs.Common.{◌≡◌, ◌++◌, map, drop}
use Rattle.sql_grammar.specs.Views.{tuple_in}
use Rattle.sql_bind.specs.Meaning.{bound_row}
use Rattle.sql_bind.specs.Seen.{visible_in, names_in_list}
use Rattle.sql_bind.proofs.inserts.rows.Given as goal

abbrev pub invariant-tuples : goal.invariant-tuples
invariant-tuples l = l.rows ++ map (bound_row (visible_in l.table) (names_in_list l.columns)) (map tuple_in (drop l.tuple-index l.tuples)) ≡ map (bound_row (visible_in l.table) (names_in_list l.columns)) (map tuple_in l.tuples)
