use Rattle.std.proofs.Common.{◌≡◌, ◌++◌, map, drop}
use Rattle.sql_grammar.specs.Views.{item_in}
use Rattle.sql_bind.specs.Seen.{item_at}
use Rattle.sql_bind.proofs.items.borrowed.Given as goal

abbrev pub invariant-items : goal.invariant-items
invariant-items l = map item_at l.found.items ++ map item_in (drop l.item-index l.items) ≡ map item_in l.items
