use Rattle.std.proofs.Common.{rules, tests, ◌≡◌, map, sym, ◌∙◌}
use Rattle.std.specs.List.{list_any}
use Rattle.std.proofs.lemmas.Iterator.{YieldsList-from_slice}
use Rattle.std.proofs.lemmas.Iterator.Search.{any_from_yields_List}
use Rattle.sql_grammar.specs.Views.{column_in}
use Rattle.sql_bind.specs.Faults.{is_outside as outside}
use Rattle.sql_bind.specs.Seen.{visible_in, item_at}
use Rattle.sql_bind.proofs.ListLemmas.{any_seen}
use Rattle.sql_bind.proofs.items.has_outside.Goals as goal

pub returns : goal.returns
returns c =
    let direct : c.any.result ≡ list_any (λ x. outside (map visible_in c.args.scope.now) (map column_in c.args.group.now) (item_at x)) c.args.items.now =
    any_from_yields_List (λ x. outside (map visible_in c.args.scope.now) (map column_in c.args.group.now) (item_at x)) _ _ c.any.result c.any.ensures.ran (YieldsList-from_slice c.args.items.now cc) (λ x b q k. search (rules, tests)) in
    direct ∙ sym (any_seen (outside (map visible_in c.args.scope.now) (map column_in c.args.group.now)) item_at c.args.items.now)
