use Rattle.std.proofs.Common.{rules, tests, ◌≡◌, map, sym, ◌∙◌}
use Rattle.std.specs.List.{list_any}
use Rattle.std.proofs.lemmas.Iterator.{YieldsList-from_slice}
use Rattle.std.proofs.lemmas.Iterator.Search.{any_from_yields_List}
use Rattle.sql_grammar.specs.Views.{operand_in, change_in}
use Rattle.sql_bind.specs.Faults.{is_no_number}
use Rattle.sql_bind.specs.Seen.{visible_in}
use Rattle.sql_bind.proofs.ListLemmas.{any_seen}
use Rattle.sql_bind.proofs.updates.steps_differ.Goals as goal

pub returns : goal.returns
returns c =
    let direct : c.any.result ≡ list_any (λ s. is_no_number (map visible_in c.args.scope.now) (operand_in s.operand)) c.args.steps.now =
    any_from_yields_List (λ s. is_no_number (map visible_in c.args.scope.now) (operand_in s.operand)) _ _ c.any.result c.any.ensures.ran (YieldsList-from_slice c.args.steps.now cc) (λ x b q k. search (rules, tests)) in
    direct ∙ sym (any_seen (λ change. is_no_number (map visible_in c.args.scope.now) change.side) change_in c.args.steps.now)
