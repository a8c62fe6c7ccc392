use Rattle.std.proofs.Common.{rules, tests, ◌≡◌, sym, ◌∙◌}
use Rattle.std.specs.List.{list_any}
use Rattle.std.proofs.lemmas.Iterator.{YieldsList-from_slice}
use Rattle.std.proofs.lemmas.Iterator.Search.{any_from_yields_List}
use Rattle.sql_grammar.specs.Views.{column_in}
use Rattle.sql_bind.specs.Scope.{is_same_place, place_in}
use Rattle.sql_bind.specs.Seen.{visible_in}
use Rattle.sql_bind.proofs.ListLemmas.{any_seen}
use Rattle.sql_bind.proofs.scope.may_be_same.Goals as goal

pub returns : goal.returns
returns c =
    let direct : c.any.result ≡ list_any (λ t. is_same_place (place_in (column_in c.args.a.now) (visible_in t)) (place_in (column_in c.args.b.now) (visible_in t))) c.args.scope.now =
    any_from_yields_List (λ t. is_same_place (place_in (column_in c.args.a.now) (visible_in t)) (place_in (column_in c.args.b.now) (visible_in t))) _ _ c.any.result c.any.ensures.ran (YieldsList-from_slice c.args.scope.now cc) (λ x b q k. search (rules, tests)) in
    direct ∙ sym (any_seen (λ t. is_same_place (place_in (column_in c.args.a.now) t) (place_in (column_in c.args.b.now) t)) visible_in c.args.scope.now)
