use Rattle.std.proofs.Common.{◌++◌, map, refl, ap}
use Rattle.sql_grammar.specs.Views.{item_in}
use Rattle.sql_bind.specs.Seen.{item_at}
use Rattle.sql_bind.proofs.ListLemmas.{no_more, one_more, seen_too}
use Rattle.sql_bind.proofs.items.borrowed.Goals as goal

pub items-init : goal.items-init
items-init c = ap (λ ws. map item_at ws ++ map item_in c.args.items.now) c.new-found.ensures.items

pub items-preserved : goal.items-preserved
items-preserved c =
    one_more (λ ys. map item_in ys) (map item_at c.items.found.items) (map item_at c.push.new.self.items) (map item_in c.args.items.now) (item_in c.item-item.result) c.args.items.now c.items.item-index c.item-item.result c.items-test.true c.item-item.is
    (seen_too item_at c.items.found.items c.push.new.self.items _ c.in_ok-push.ensures.items) (λ ys. refl) c.items.invariant

pub returns : goal.returns
returns c = no_more (λ ys. map item_in ys) (map item_at c.items.found.items) (map item_in c.args.items.now) c.args.items.now c.items.item-index refl c.items-test.false c.items.invariant
