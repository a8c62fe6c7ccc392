use Rattle.std.proofs.Common.{rules, tests, ◌≡◌, ◌||◌, map, flat_map, ap, sym, ◌∙◌}
use Rattle.std.specs.List.{list_any}
use Rattle.std.proofs.lemmas.Iterator.{YieldsList-from_slice}
use Rattle.std.proofs.lemmas.Iterator.Search.{any_from_yields_List}
use Rattle.std.proofs.lemmas.List.Folds.{list_any-append}
use Rattle.sql_grammar.specs.Views.{operand_in, change_in}
use Rattle.sql_bind.specs.Faults.{side_columns}
use Rattle.sql_bind.specs.Seen.{visible_in, doubted}
use Rattle.sql_bind.proofs.ListLemmas.{any_seen, any_joined}
use Rattle.sql_bind.proofs.columns.assign_has_doubt.Goals as goal

pub returns-else-operand_has_doubt : goal.returns-else-operand_has_doubt
returns-else-operand_has_doubt c =
    let steps = c.args.assign.now.rest.items.items in
    let first = side_columns (operand_in c.args.assign.now.first) in
    let direct : c.any.result ≡ list_any (λ s. list_any (doubted (map visible_in c.args.scope.now) c.args.doubt) (side_columns (operand_in s.operand))) c.as_slice.result.now =
    any_from_yields_List (λ s. list_any (doubted (map visible_in c.args.scope.now) c.args.doubt) (side_columns (operand_in s.operand))) _ _ c.any.result c.any.ensures.ran (YieldsList-from_slice c.as_slice.result.now cc) (λ x b q k. search (rules, tests)) in
    direct
    ∙ ap (λ xs. list_any (λ s. list_any (doubted (map visible_in c.args.scope.now) c.args.doubt) (side_columns (operand_in s.operand))) xs) c.as_slice.ensures
    ∙ sym (any_seen (λ s. list_any (doubted (map visible_in c.args.scope.now) c.args.doubt) (side_columns s.side)) change_in steps)
    ∙ sym (any_joined (doubted (map visible_in c.args.scope.now) c.args.doubt) (λ s. side_columns s.side) (map change_in steps))
    ∙ ap (λ b. b || list_any (doubted (map visible_in c.args.scope.now) c.args.doubt) (flat_map (λ s. side_columns s.side) (map change_in steps))) (sym c.if-operand_has_doubt.false ∙ c.operand_has_doubt.ensures)
    ∙ sym (list_any-append (doubted (map visible_in c.args.scope.now) c.args.doubt) first (flat_map (λ s. side_columns s.side) (map change_in steps)))
