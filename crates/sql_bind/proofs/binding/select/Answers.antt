-- Each answer of a query is one of the tests that come before it, or what it means.
use Rattle.std.proofs.Common.{◌||◌, ◌++◌, map, flat_map, Ok, refl, ap, ap₂, sym, ◌∙◌}
use Rattle.std.specs.List.{list_any}
use Rattle.std.proofs.lemmas.Result.{err_from_is_err_and}
use Rattle.cdb_values.specs.Tables.{has_twice}
use Rattle.sql_grammar.specs.Trees.{SelectOf}
use Rattle.sql_grammar.specs.Views.{column_in, items_in, key_in, source_in, filter_in, query_in}
use Rattle.sql_bind.specs.Bound as bounds
use Rattle.sql_bind.specs.Faults.{listed, item_columns, filter_columns, filter_differs}
use Rattle.sql_bind.specs.Meaning.{bound_query}
use Rattle.sql_bind.specs.Scope.{visible, named_ones, is_unknown_table, is_unknown, is_ambiguous}
use Rattle.sql_bind.specs.Seen.{visible_in, item_at}
use Rattle.sql_bind.proofs.BindingLemmas.{no_table, no_column, two_meanings, wrong_type, is_bound, missed}
use Rattle.sql_bind.proofs.SelectLemmas.{column_is, name_is, type_is, meaning_is}
use Rattle.sql_bind.proofs.binding.select.Goals as goal
use Rattle.sql_bind.proofs.binding.select.Goals.{then-is_badly_grouped-via-then-is_badly_grouped, then-is_badly_grouped-via-else-is_badly_grouped+then-query_has_doubt, then-is_twice-via-then-is_twice, then-is_twice-via-else-is_twice+then-query_has_doubt-2, then-has_wrong_item-via-then-has_wrong_item, then-has_wrong_item-via-else-has_wrong_item+then-filter_differs}

pub returns-in_err-sources-clause-refused : goal.returns-in_err-sources-clause-refused
returns-in_err-sources-clause-refused c =
    let stop = err_from_is_err_and c.from_residual.result c.from_residual.ensures.1 in
    rw (stop.1, stop.2)
    (missed c.in_err-sources.field-0.0 (list_any (is_unknown_table c.args.schema.now) (map (λ s. s.table) (map source_in c.as_slice.result.now))) _ c.in_err-sources.ensures.refused
    (λ unknown. no_table c.args.schema.now (SelectOf (query_in c.args.query.now)) (ap (λ xs. list_any (is_unknown_table c.args.schema.now) (map (λ s. s.table) (map source_in xs))) (sym c.as_slice.ensures) ∙ unknown)))

pub returns-then-is_badly_grouped-clause-refused : goal.returns-then-is_badly_grouped-clause-refused
returns-then-is_badly_grouped-clause-refused c =
    no_column c.args.schema.now (SelectOf (query_in c.args.query.now)) (ap (λ xs. list_any (is_unknown_table c.args.schema.now) (map (λ s. s.table) (map source_in xs))) (sym c.as_slice.ensures) ∙ c.in_ok-sources.ensures.known)
    (column_is c.args.schema.now (query_in c.args.query.now) (map visible_in c.in_ok-sources.sources.items) (map visible_in c.named-scope.result.now) (map item_at c.as_slice-items.result.now) (map column_in c.as_slice-group.result.now) (c.in_ok-sources.ensures.found ∙ ap (λ xs. map (visible c.args.schema.now) (map source_in xs)) c.as_slice.ensures) (c.named-scope.ensures.named ∙ ap (λ xs. named_ones (map visible_in xs)) c.as_slice-2.ensures.value) (ap (map item_at) c.as_slice-items.ensures.value ∙ c.in_ok-items.ensures ∙ ap (λ xs. listed (items_in c.args.query.now.items) ++ map (λ key. key.item) (map key_in xs)) c.as_slice-3.ensures) (ap (map column_in) c.as_slice-group.ensures) ∙ (elim c.then-is_badly_grouped.branch [
      | then-is_badly_grouped-via-then-is_badly_grouped w ↦ ap (λ b. b || list_any (is_unknown (map visible_in c.named-scope.result.now)) (flat_map item_columns (map item_at c.as_slice-items.result.now) ++ (filter_columns (filter_in c.args.query.now.filter) ++ (map column_in c.as_slice-group.result.now)))) (sym c.is_badly_grouped.ensures ∙ w.if-is_badly_grouped.true)
      | then-is_badly_grouped-via-else-is_badly_grouped+then-query_has_doubt w ↦ (ap₂ (λ a b. a || b) (sym c.is_badly_grouped.ensures ∙ w.if-is_badly_grouped.false) (sym w.query_has_doubt.ensures ∙ w.if-query_has_doubt.true))
    ]))

pub returns-then-is_twice-clause-refused : goal.returns-then-is_twice-clause-refused
returns-then-is_twice-clause-refused c =
    two_meanings c.args.schema.now (SelectOf (query_in c.args.query.now)) (ap (λ xs. list_any (is_unknown_table c.args.schema.now) (map (λ s. s.table) (map source_in xs))) (sym c.as_slice.ensures) ∙ c.in_ok-sources.ensures.known)
    (column_is c.args.schema.now (query_in c.args.query.now) (map visible_in c.in_ok-sources.sources.items) (map visible_in c.named-scope.result.now) (map item_at c.as_slice-items.result.now) (map column_in c.as_slice-group.result.now) (c.in_ok-sources.ensures.found ∙ ap (λ xs. map (visible c.args.schema.now) (map source_in xs)) c.as_slice.ensures) (c.named-scope.ensures.named ∙ ap (λ xs. named_ones (map visible_in xs)) c.as_slice-2.ensures.value) (ap (map item_at) c.as_slice-items.ensures.value ∙ c.in_ok-items.ensures ∙ ap (λ xs. listed (items_in c.args.query.now.items) ++ map (λ key. key.item) (map key_in xs)) c.as_slice-3.ensures) (ap (map column_in) c.as_slice-group.ensures) ∙ (ap₂ (λ a b. a || b) (sym c.is_badly_grouped.ensures ∙ c.if-is_badly_grouped.false) (sym c.query_has_doubt.ensures ∙ c.if-query_has_doubt.false)))
    (name_is c.args.schema.now (query_in c.args.query.now) (map visible_in c.in_ok-sources.sources.items) (map visible_in c.named-scope.result.now) (map item_at c.as_slice-items.result.now) (map column_in c.as_slice-group.result.now) (c.in_ok-sources.ensures.found ∙ ap (λ xs. map (visible c.args.schema.now) (map source_in xs)) c.as_slice.ensures) (c.named-scope.ensures.named ∙ ap (λ xs. named_ones (map visible_in xs)) c.as_slice-2.ensures.value) (ap (map item_at) c.as_slice-items.ensures.value ∙ c.in_ok-items.ensures ∙ ap (λ xs. listed (items_in c.args.query.now.items) ++ map (λ key. key.item) (map key_in xs)) c.as_slice-3.ensures) (ap (map column_in) c.as_slice-group.ensures) ∙ (elim c.then-is_twice.branch [
      | then-is_twice-via-then-is_twice w ↦ ap (λ b. b || list_any (is_ambiguous (map visible_in c.named-scope.result.now)) (flat_map item_columns (map item_at c.as_slice-items.result.now) ++ (filter_columns (filter_in c.args.query.now.filter) ++ (map column_in c.as_slice-group.result.now)))) (ap has_twice (sym (ap (map (λ n. n.now)) c.as_slice-5.ensures.value ∙ c.in_ok-names.ensures ∙ ap (λ xs. map (λ v. v.name) (map visible_in xs)) c.as_slice-4.ensures.value)) ∙ sym c.is_twice.ensures ∙ w.if-is_twice.true)
      | then-is_twice-via-else-is_twice+then-query_has_doubt-2 w ↦ (ap₂ (λ a b. a || b) (ap has_twice (sym (ap (map (λ n. n.now)) c.as_slice-5.ensures.value ∙ c.in_ok-names.ensures ∙ ap (λ xs. map (λ v. v.name) (map visible_in xs)) c.as_slice-4.ensures.value)) ∙ sym c.is_twice.ensures ∙ w.if-is_twice.false) (sym w.query_has_doubt-else-is_twice.ensures ∙ w.if-query_has_doubt-2.true))
    ]))

pub returns-then-has_wrong_item-clause-refused : goal.returns-then-has_wrong_item-clause-refused
returns-then-has_wrong_item-clause-refused c =
    wrong_type c.args.schema.now (SelectOf (query_in c.args.query.now)) (ap (λ xs. list_any (is_unknown_table c.args.schema.now) (map (λ s. s.table) (map source_in xs))) (sym c.as_slice.ensures) ∙ c.in_ok-sources.ensures.known)
    (column_is c.args.schema.now (query_in c.args.query.now) (map visible_in c.in_ok-sources.sources.items) (map visible_in c.named-scope.result.now) (map item_at c.as_slice-items.result.now) (map column_in c.as_slice-group.result.now) (c.in_ok-sources.ensures.found ∙ ap (λ xs. map (visible c.args.schema.now) (map source_in xs)) c.as_slice.ensures) (c.named-scope.ensures.named ∙ ap (λ xs. named_ones (map visible_in xs)) c.as_slice-2.ensures.value) (ap (map item_at) c.as_slice-items.ensures.value ∙ c.in_ok-items.ensures ∙ ap (λ xs. listed (items_in c.args.query.now.items) ++ map (λ key. key.item) (map key_in xs)) c.as_slice-3.ensures) (ap (map column_in) c.as_slice-group.ensures) ∙ (ap₂ (λ a b. a || b) (sym c.is_badly_grouped.ensures ∙ c.if-is_badly_grouped.false) (sym c.query_has_doubt.ensures ∙ c.if-query_has_doubt.false)))
    (name_is c.args.schema.now (query_in c.args.query.now) (map visible_in c.in_ok-sources.sources.items) (map visible_in c.named-scope.result.now) (map item_at c.as_slice-items.result.now) (map column_in c.as_slice-group.result.now) (c.in_ok-sources.ensures.found ∙ ap (λ xs. map (visible c.args.schema.now) (map source_in xs)) c.as_slice.ensures) (c.named-scope.ensures.named ∙ ap (λ xs. named_ones (map visible_in xs)) c.as_slice-2.ensures.value) (ap (map item_at) c.as_slice-items.ensures.value ∙ c.in_ok-items.ensures ∙ ap (λ xs. listed (items_in c.args.query.now.items) ++ map (λ key. key.item) (map key_in xs)) c.as_slice-3.ensures) (ap (map column_in) c.as_slice-group.ensures) ∙ (ap₂ (λ a b. a || b) (ap has_twice (sym (ap (map (λ n. n.now)) c.as_slice-5.ensures.value ∙ c.in_ok-names.ensures ∙ ap (λ xs. map (λ v. v.name) (map visible_in xs)) c.as_slice-4.ensures.value)) ∙ sym c.is_twice.ensures ∙ c.if-is_twice.false) (sym c.query_has_doubt-else-is_twice.ensures ∙ c.if-query_has_doubt-2.false)))
    (type_is c.args.schema.now (query_in c.args.query.now) (map visible_in c.in_ok-sources.sources.items) (map visible_in c.named-scope.result.now) (map item_at c.as_slice-items.result.now) (map column_in c.as_slice-group.result.now) (c.in_ok-sources.ensures.found ∙ ap (λ xs. map (visible c.args.schema.now) (map source_in xs)) c.as_slice.ensures) (c.named-scope.ensures.named ∙ ap (λ xs. named_ones (map visible_in xs)) c.as_slice-2.ensures.value) (ap (map item_at) c.as_slice-items.ensures.value ∙ c.in_ok-items.ensures ∙ ap (λ xs. listed (items_in c.args.query.now.items) ++ map (λ key. key.item) (map key_in xs)) c.as_slice-3.ensures) (ap (map column_in) c.as_slice-group.ensures) ∙ (elim c.then-has_wrong_item.branch [
      | then-has_wrong_item-via-then-has_wrong_item w ↦ ap (λ b. b || filter_differs (map visible_in c.named-scope.result.now) (filter_in c.args.query.now.filter)) (sym c.has_wrong_item.ensures ∙ w.if-has_wrong_item.true)
      | then-has_wrong_item-via-else-has_wrong_item+then-filter_differs w ↦ (ap₂ (λ a b. a || b) (sym c.has_wrong_item.ensures ∙ w.if-has_wrong_item.false) (sym w.filter_differs.ensures ∙ w.if-filter_differs.true))
    ]))

pub returns-clause-bound : goal.returns-clause-bound
returns-clause-bound c =
    is_bound c.args.schema.now (SelectOf (query_in c.args.query.now)) (ap (λ xs. list_any (is_unknown_table c.args.schema.now) (map (λ s. s.table) (map source_in xs))) (sym c.as_slice.ensures) ∙ c.in_ok-sources.ensures.known)
    (column_is c.args.schema.now (query_in c.args.query.now) (map visible_in c.in_ok-sources.sources.items) (map visible_in c.named-scope.result.now) (map item_at c.as_slice-items.result.now) (map column_in c.as_slice-group.result.now) (c.in_ok-sources.ensures.found ∙ ap (λ xs. map (visible c.args.schema.now) (map source_in xs)) c.as_slice.ensures) (c.named-scope.ensures.named ∙ ap (λ xs. named_ones (map visible_in xs)) c.as_slice-2.ensures.value) (ap (map item_at) c.as_slice-items.ensures.value ∙ c.in_ok-items.ensures ∙ ap (λ xs. listed (items_in c.args.query.now.items) ++ map (λ key. key.item) (map key_in xs)) c.as_slice-3.ensures) (ap (map column_in) c.as_slice-group.ensures) ∙ (ap₂ (λ a b. a || b) (sym c.is_badly_grouped.ensures ∙ c.if-is_badly_grouped.false) (sym c.query_has_doubt.ensures ∙ c.if-query_has_doubt.false)))
    (name_is c.args.schema.now (query_in c.args.query.now) (map visible_in c.in_ok-sources.sources.items) (map visible_in c.named-scope.result.now) (map item_at c.as_slice-items.result.now) (map column_in c.as_slice-group.result.now) (c.in_ok-sources.ensures.found ∙ ap (λ xs. map (visible c.args.schema.now) (map source_in xs)) c.as_slice.ensures) (c.named-scope.ensures.named ∙ ap (λ xs. named_ones (map visible_in xs)) c.as_slice-2.ensures.value) (ap (map item_at) c.as_slice-items.ensures.value ∙ c.in_ok-items.ensures ∙ ap (λ xs. listed (items_in c.args.query.now.items) ++ map (λ key. key.item) (map key_in xs)) c.as_slice-3.ensures) (ap (map column_in) c.as_slice-group.ensures) ∙ (ap₂ (λ a b. a || b) (ap has_twice (sym (ap (map (λ n. n.now)) c.as_slice-5.ensures.value ∙ c.in_ok-names.ensures ∙ ap (λ xs. map (λ v. v.name) (map visible_in xs)) c.as_slice-4.ensures.value)) ∙ sym c.is_twice.ensures ∙ c.if-is_twice.false) (sym c.query_has_doubt-else-is_twice.ensures ∙ c.if-query_has_doubt-2.false)))
    (type_is c.args.schema.now (query_in c.args.query.now) (map visible_in c.in_ok-sources.sources.items) (map visible_in c.named-scope.result.now) (map item_at c.as_slice-items.result.now) (map column_in c.as_slice-group.result.now) (c.in_ok-sources.ensures.found ∙ ap (λ xs. map (visible c.args.schema.now) (map source_in xs)) c.as_slice.ensures) (c.named-scope.ensures.named ∙ ap (λ xs. named_ones (map visible_in xs)) c.as_slice-2.ensures.value) (ap (map item_at) c.as_slice-items.ensures.value ∙ c.in_ok-items.ensures ∙ ap (λ xs. listed (items_in c.args.query.now.items) ++ map (λ key. key.item) (map key_in xs)) c.as_slice-3.ensures) (ap (map column_in) c.as_slice-group.ensures) ∙ (ap₂ (λ a b. a || b) (sym c.has_wrong_item.ensures ∙ c.if-has_wrong_item.false) (sym c.filter_differs.ensures ∙ c.if-filter_differs.false))) refl
    ∙ ap (λ b. Ok b) (meaning_is c.args.schema.now (query_in c.args.query.now) (map visible_in c.in_ok-sources.sources.items) (map visible_in c.named-scope.result.now) (map item_at c.as_slice-items.result.now) (map column_in c.as_slice-group.result.now) (c.in_ok-sources.ensures.found ∙ ap (λ xs. map (visible c.args.schema.now) (map source_in xs)) c.as_slice.ensures) (c.named-scope.ensures.named ∙ ap (λ xs. named_ones (map visible_in xs)) c.as_slice-2.ensures.value) (ap (map item_at) c.as_slice-items.ensures.value ∙ c.in_ok-items.ensures ∙ ap (λ xs. listed (items_in c.args.query.now.items) ++ map (λ key. key.item) (map key_in xs)) c.as_slice-3.ensures) (ap (map column_in) c.as_slice-group.ensures))
    ∙ ap (λ b. Ok (bounds.SelectOf b)) (sym (c.in_ok-bound.ensures ∙ ap (λ xs. bound_query (map visible_in xs) (query_in c.args.query.now)) c.as_slice-6.ensures.value))
