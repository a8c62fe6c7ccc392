-- What stands behind FROM, without where it lies in memory.
use Rattle.std.specs.Prelude.{map}
use Rattle.sql_grammar.specs.Grammar.{Tail}
use Rattle.sql_grammar.specs.Views.{filter_in, column_in, key_in}
use Rattle.sql_reader.specs.declared.queries.Ending.{Ending}

abbrev pub ending_in : Ending → Tail
ending_in e = record { filter = filter_in e.filter; group = map column_in e.group.items.items; order = map key_in e.order.items.items; limit = e.limit }
