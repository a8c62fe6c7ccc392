use Rattle.std.proofs.Common.{◌||◌, ◌∷◌, [], false, Ok, ap, sym, refl, ◌∙◌}
use Rattle.std.specs.List.{list_any}
use Rattle.std.proofs.lemmas.Result.{err_from_is_err_and}
use Rattle.sql_grammar.specs.Trees.{DeleteFrom}
use Rattle.sql_grammar.specs.Views.{name_in, filter_in}
use Rattle.sql_bind.specs.Bound.{BoundStatement}
use Rattle.sql_bind.specs.Bound as bounds
use Rattle.sql_bind.specs.Faults.{filter_columns, filter_differs}
use Rattle.sql_bind.specs.Meaning.{bound_as, bound_filter}
use Rattle.sql_bind.specs.Scope.{Visible, target, is_unknown_table, is_unknown}
use Rattle.sql_bind.proofs.BindingLemmas.{no_table, no_column, wrong_type, is_bound, never_ambiguous, missed}
use Rattle.sql_bind.proofs.binding.delete.Goals as goal

pub returns-in_err-table-clause-refused : goal.returns-in_err-table-clause-refused
returns-in_err-table-clause-refused c =
    let stop = err_from_is_err_and c.from_residual.result c.from_residual.ensures.1 in
    rw (stop.1, stop.2)
    (missed c.in_err-table.field-0.0 (is_unknown_table c.args.schema.now (name_in c.args.table.now)) _ c.in_err-table.ensures.refused
    (λ unknown. no_table c.args.schema.now (DeleteFrom (name_in c.args.table.now) (filter_in c.args.filter.now)) (ap (λ b. b || false) unknown)))

pub returns-then-filter_has_doubt-clause-refused : goal.returns-then-filter_has_doubt-clause-refused
returns-then-filter_has_doubt-clause-refused c =
    no_column c.args.schema.now (DeleteFrom (name_in c.args.table.now) (filter_in c.args.filter.now)) (ap (λ b. b || false) c.in_ok-table.ensures.known) (sym (ap (λ (t : Visible). list_any (is_unknown (t ∷ [])) (filter_columns (filter_in c.args.filter.now))) c.in_ok-table.ensures.found) ∙ sym c.filter_has_doubt.ensures ∙ c.if-filter_has_doubt.true)

pub returns-then-filter_differs-clause-refused : goal.returns-then-filter_differs-clause-refused
returns-then-filter_differs-clause-refused c =
    wrong_type c.args.schema.now (DeleteFrom (name_in c.args.table.now) (filter_in c.args.filter.now)) (ap (λ b. b || false) c.in_ok-table.ensures.known) (sym (ap (λ (t : Visible). list_any (is_unknown (t ∷ [])) (filter_columns (filter_in c.args.filter.now))) c.in_ok-table.ensures.found) ∙ sym c.filter_has_doubt.ensures ∙ c.if-filter_has_doubt.false) (never_ambiguous (target c.args.schema.now (name_in c.args.table.now)) (filter_columns (filter_in c.args.filter.now))) (sym (ap (λ (t : Visible). filter_differs (t ∷ []) (filter_in c.args.filter.now)) c.in_ok-table.ensures.found) ∙ sym c.filter_differs.ensures ∙ c.if-filter_differs.true)

pub returns-clause-bound : goal.returns-clause-bound
unfolding bound_as
returns-clause-bound c =
    is_bound c.args.schema.now (DeleteFrom (name_in c.args.table.now) (filter_in c.args.filter.now)) (ap (λ b. b || false) c.in_ok-table.ensures.known) (sym (ap (λ (t : Visible). list_any (is_unknown (t ∷ [])) (filter_columns (filter_in c.args.filter.now))) c.in_ok-table.ensures.found) ∙ sym c.filter_has_doubt.ensures ∙ c.if-filter_has_doubt.false) (never_ambiguous (target c.args.schema.now (name_in c.args.table.now)) (filter_columns (filter_in c.args.filter.now))) (sym (ap (λ (t : Visible). filter_differs (t ∷ []) (filter_in c.args.filter.now)) c.in_ok-table.ensures.found) ∙ sym c.filter_differs.ensures ∙ c.if-filter_differs.false) refl
    ∙ ap (λ (t : Visible). Ok (bounds.DeleteFrom t.table (bound_filter (t ∷ []) (filter_in c.args.filter.now)))) (sym c.in_ok-table.ensures.found)
    ∙ ap (λ f. Ok (bounds.DeleteFrom c.in_ok-table.table.place f)) (sym c.in_ok-filter.ensures)
