use Rattle.std.proofs.Common.{rules, tests, ◌≡◌, ap, sym, ◌∙◌, not}
use Rattle.std.specs.List.{list_any}
use Rattle.std.proofs.lemmas.Iterator.{YieldsList-from_slice}
use Rattle.std.proofs.lemmas.Iterator.Search.{any_from_yields_List}
use Rattle.sql_grammar.specs.Views.{column_in}
use Rattle.sql_bind.specs.Scope.{may_mean}
use Rattle.sql_bind.specs.Seen.{visible_in}
use Rattle.sql_bind.proofs.ListLemmas.{any_seen}
use Rattle.sql_bind.proofs.scope.is_unknown.Goals as goal

pub returns : goal.returns
returns c =
    let direct : c.any.result ≡ list_any (λ t. may_mean (column_in c.args.column.now) (visible_in t)) c.args.scope.now =
    any_from_yields_List (λ t. may_mean (column_in c.args.column.now) (visible_in t)) _ _ c.any.result c.any.ensures.ran (YieldsList-from_slice c.args.scope.now cc) (λ x b q k. search (rules, tests)) in
    ap not (direct ∙ sym (any_seen (may_mean (column_in c.args.column.now)) visible_in c.args.scope.now))
