use Rattle.std.proofs.Common.{rules, tests, ◌≡◌, sym, ◌∙◌}
use Rattle.std.specs.List.{list_any}
use Rattle.std.proofs.lemmas.Iterator.{YieldsList-from_slice}
use Rattle.std.proofs.lemmas.Iterator.Search.{any_from_yields_List}
use Rattle.sql_bind.specs.Faults.{is_aggregate as aggregate}
use Rattle.sql_bind.specs.Seen.{item_at}
use Rattle.sql_bind.proofs.ListLemmas.{any_seen}
use Rattle.sql_bind.proofs.items.has_aggregate.Goals as goal

pub returns : goal.returns
returns c =
    let direct : c.any.result ≡ list_any (λ x. aggregate (item_at x)) c.args.items.now =
    any_from_yields_List (λ x. aggregate (item_at x)) _ _ c.any.result c.any.ensures.ran (YieldsList-from_slice c.args.items.now cc) (λ x b q k. search (rules, tests)) in
    direct ∙ sym (any_seen aggregate item_at c.args.items.now)
