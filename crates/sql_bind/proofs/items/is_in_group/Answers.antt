use Rattle.std.proofs.Common.{rules, tests, ◌≡◌, map, sym, ◌∙◌}
use Rattle.std.specs.List.{list_any}
use Rattle.std.proofs.lemmas.Iterator.{YieldsList-from_slice}
use Rattle.std.proofs.lemmas.Iterator.Search.{any_from_yields_List}
use Rattle.sql_grammar.specs.Views.{column_in}
use Rattle.sql_bind.specs.Scope.{may_be_same as same}
use Rattle.sql_bind.specs.Seen.{visible_in}
use Rattle.sql_bind.proofs.ListLemmas.{any_seen}
use Rattle.sql_bind.proofs.items.is_in_group.Goals as goal

pub returns : goal.returns
returns c =
    let direct : c.any.result ≡ list_any (λ x. same (map visible_in c.args.scope.now) (column_in c.args.column.now) (column_in x)) c.args.group.now =
    any_from_yields_List (λ x. same (map visible_in c.args.scope.now) (column_in c.args.column.now) (column_in x)) _ _ c.any.result c.any.ensures.ran (YieldsList-from_slice c.args.group.now cc) (λ x b q k. search (rules, tests)) in
    direct ∙ sym (any_seen (same (map visible_in c.args.scope.now) (column_in c.args.column.now)) column_in c.args.group.now)
