-- The tests of a query, over its tables and items as the code holds them.
use Rattle.std.proofs.Common.{◌≡◌, List, ◌++◌, not, ◌||◌, ◌&&◌, map, flat_map, is_none, sym, ap, ap₂, ◌∙◌}
use Rattle.std.specs.List.{list_any}
use Rattle.cdb_values.specs.Tables.{has_twice}
use Rattle.cdb_values.specs.declared.tables.TableDef.{TableDef}
use Rattle.sql_grammar.specs.Trees.{Column, Item, Query, SelectOf}
use Rattle.sql_bind.specs.Bound as bounds
use Rattle.sql_bind.specs.Faults.{query_items, is_aggregate, is_empty, is_outside, item_columns, filter_columns, item_differs, filter_differs, has_unknown_column, has_ambiguous_name, has_wrong_type}
use Rattle.sql_bind.specs.Meaning.{bound_as, bound_query}
use Rattle.sql_bind.specs.Scope.{Visible, visible, named_ones, is_unknown, is_ambiguous}
use Rattle.sql_bind.proofs.BindingLemmas.{names_visible}

module _ (tables : List TableDef) (q : Query) (found scope : List Visible) (items : List Item) (group : List Column)
    (is_found : found ≡ map (visible tables) q.tables) (is_scope : scope ≡ named_ones found) (are_items : items ≡ query_items q) (is_group : group ≡ q.group) where
  seen_scope : named_ones (map (visible tables) q.tables) ≡ scope
  seen_scope = ap named_ones (sym is_found) ∙ sym is_scope

  pub column_is : has_unknown_column tables (SelectOf q)
      ≡ (((not (is_empty group) || list_any is_aggregate items) && (is_none q.items || list_any (is_outside scope group) items))
      || list_any (is_unknown scope) (flat_map item_columns items ++ (filter_columns q.filter ++ group)))
  column_is =
      ap (λ s. ((not (is_empty q.group) || list_any is_aggregate (query_items q)) && (is_none q.items || list_any (is_outside s q.group) (query_items q)))
      || list_any (is_unknown s) (flat_map item_columns (query_items q) ++ (filter_columns q.filter ++ q.group))) seen_scope
      ∙ ap₂ (λ i g. ((not (is_empty g) || list_any is_aggregate i) && (is_none q.items || list_any (is_outside scope g) i))
      || list_any (is_unknown scope) (flat_map item_columns i ++ (filter_columns q.filter ++ g))) (sym are_items) (sym is_group)

  pub name_is : has_ambiguous_name tables (SelectOf q)
      ≡ (has_twice (map (λ v. v.name) found) || list_any (is_ambiguous scope) (flat_map item_columns items ++ (filter_columns q.filter ++ group)))
  name_is =
      ap (λ names. has_twice names || list_any (is_ambiguous (named_ones (map (visible tables) q.tables))) (flat_map item_columns (query_items q) ++ (filter_columns q.filter ++ q.group)))
      (sym (names_visible tables q.tables) ∙ ap (map (λ v. v.name)) (sym is_found))
      ∙ ap (λ s. has_twice (map (λ v. v.name) found) || list_any (is_ambiguous s) (flat_map item_columns (query_items q) ++ (filter_columns q.filter ++ q.group))) seen_scope
      ∙ ap₂ (λ i g. has_twice (map (λ v. v.name) found) || list_any (is_ambiguous scope) (flat_map item_columns i ++ (filter_columns q.filter ++ g))) (sym are_items) (sym is_group)

  pub type_is : has_wrong_type tables (SelectOf q) ≡ (list_any (item_differs scope) items || filter_differs scope q.filter)
  type_is =
      ap (λ s. list_any (item_differs s) (query_items q) || filter_differs s q.filter) seen_scope
      ∙ ap (λ i. list_any (item_differs scope) i || filter_differs scope q.filter) (sym are_items)

  pub meaning_is : bound_as tables (SelectOf q) ≡ bounds.SelectOf (bound_query found q)
  unfolding bound_as
  meaning_is = ap (λ f. bounds.SelectOf (bound_query f q)) (sym is_found)
