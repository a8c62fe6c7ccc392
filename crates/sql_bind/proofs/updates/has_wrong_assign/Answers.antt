use Rattle.std.proofs.Common.{rules, tests, ◌≡◌, sym, ◌∙◌}
use Rattle.std.specs.List.{list_any}
use Rattle.std.proofs.lemmas.Iterator.{YieldsList-from_slice}
use Rattle.std.proofs.lemmas.Iterator.Search.{any_from_yields_List}
use Rattle.sql_grammar.specs.Views.{setting_in}
use Rattle.sql_bind.specs.Faults.{setting_differs}
use Rattle.sql_bind.specs.Seen.{visible_in}
use Rattle.sql_bind.proofs.ListLemmas.{any_seen}
use Rattle.sql_bind.proofs.updates.has_wrong_assign.Goals as goal

pub returns : goal.returns
returns c =
    let direct : c.any.result ≡ list_any (λ x. setting_differs (visible_in c.args.table.now) (setting_in x)) c.args.assigns.now =
    any_from_yields_List (λ x. setting_differs (visible_in c.args.table.now) (setting_in x)) _ _ c.any.result c.any.ensures.ran (YieldsList-from_slice c.args.assigns.now cc) (λ x b q k. search (rules, tests)) in
    direct ∙ sym (any_seen (setting_differs (visible_in c.args.table.now)) setting_in c.args.assigns.now)
