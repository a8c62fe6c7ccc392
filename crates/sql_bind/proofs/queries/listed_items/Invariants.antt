use Rattle.std.proofs.Common.{◌≡◌, ◌++◌, map, drop}
use Rattle.sql_grammar.specs.Views.{item_in}
use Rattle.sql_bind.specs.Meaning.{bound_item}
use Rattle.sql_bind.specs.Seen.{visible_in}
use Rattle.sql_bind.proofs.queries.listed_items.Given as goal

abbrev pub invariant-items : goal.invariant-items
invariant-items l = l.bound ++ map (bound_item (map visible_in l.scope)) (map item_in (drop l.item-index l.items)) ≡ map (bound_item (map visible_in l.scope)) (map item_in l.items)
