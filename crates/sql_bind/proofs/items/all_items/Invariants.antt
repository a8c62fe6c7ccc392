use Rattle.std.proofs.Common.{◌≡◌, ◌++◌, map, drop}
use Rattle.sql_grammar.specs.Views.{items_in, key_in}
use Rattle.sql_bind.specs.Faults.{listed}
use Rattle.sql_bind.specs.Seen.{item_at}
use Rattle.sql_bind.proofs.items.all_items.Given as goal

abbrev pub invariant-order : goal.invariant-order
invariant-order l = map item_at l.found.items ++ map (λ key. key.item) (map key_in (drop l.key-index l.order)) ≡ listed (items_in l.fn.items) ++ map (λ key. key.item) (map key_in l.order)
