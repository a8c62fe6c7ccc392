use Rattle.std.proofs.Common.{◌||◌, ◌∷◌, [], false, map, Ok, ap, ap₂, sym, refl, ◌∙◌}
use Rattle.std.specs.List.{list_any}
use Rattle.std.proofs.lemmas.Result.{err_from_is_err_and}
use Rattle.cdb_values.specs.Tables.{has_twice}
use Rattle.sql_grammar.specs.Trees.{UpdateOf}
use Rattle.sql_grammar.specs.Views.{name_in, filter_in, setting_in}
use Rattle.sql_bind.specs.Bound.{BoundStatement}
use Rattle.sql_bind.specs.Bound as bounds
use Rattle.sql_bind.specs.Faults.{update_columns, setting_differs, filter_differs}
use Rattle.sql_bind.specs.Meaning.{bound_as, bound_filter, bound_setting}
use Rattle.sql_bind.specs.Scope.{Visible, target, is_unknown_table, is_unknown}
use Rattle.sql_bind.proofs.BindingLemmas.{no_table, no_column, two_meanings, wrong_type, is_bound, never_ambiguous, missed}
use Rattle.sql_bind.proofs.binding.update.Goals as goal
use Rattle.sql_bind.proofs.binding.update.Goals.{then-has_wrong_assign-via-then-has_wrong_assign, then-has_wrong_assign-via-else-has_wrong_assign+then-filter_differs}

pub returns-in_err-table-clause-refused : goal.returns-in_err-table-clause-refused
returns-in_err-table-clause-refused c =
    let stop = err_from_is_err_and c.from_residual.result c.from_residual.ensures.1 in
    rw (stop.1, stop.2)
    (missed c.in_err-table.field-0.0 (is_unknown_table c.args.schema.now (name_in c.args.table.now)) _ c.in_err-table.ensures.refused
    (λ unknown. no_table c.args.schema.now (UpdateOf (name_in c.args.table.now) (map setting_in c.args.assigns.now) (filter_in c.args.filter.now)) (ap (λ b. b || false) unknown)))

pub returns-then-names_unknown-clause-refused : goal.returns-then-names_unknown-clause-refused
returns-then-names_unknown-clause-refused c =
    no_column c.args.schema.now (UpdateOf (name_in c.args.table.now) (map setting_in c.args.assigns.now) (filter_in c.args.filter.now)) (ap (λ b. b || false) c.in_ok-table.ensures.known) (sym (ap (λ (t : Visible). list_any (is_unknown (t ∷ [])) (update_columns (map setting_in c.args.assigns.now) (filter_in c.args.filter.now))) c.in_ok-table.ensures.found) ∙ sym c.names_unknown.ensures ∙ c.if-names_unknown.true)

pub returns-then-is_twice-clause-refused : goal.returns-then-is_twice-clause-refused
returns-then-is_twice-clause-refused c =
    two_meanings c.args.schema.now (UpdateOf (name_in c.args.table.now) (map setting_in c.args.assigns.now) (filter_in c.args.filter.now)) (ap (λ b. b || false) c.in_ok-table.ensures.known) (sym (ap (λ (t : Visible). list_any (is_unknown (t ∷ [])) (update_columns (map setting_in c.args.assigns.now) (filter_in c.args.filter.now))) c.in_ok-table.ensures.found) ∙ sym c.names_unknown.ensures ∙ c.if-names_unknown.false) (ap₂ (λ a b. a || b) (ap has_twice (sym c.in_ok-written.ensures) ∙ ap (λ xs. has_twice (map (λ n. n.now) xs)) (sym c.as_slice.ensures.value) ∙ sym c.is_twice.ensures ∙ c.if-is_twice.true) (never_ambiguous (target c.args.schema.now (name_in c.args.table.now)) (update_columns (map setting_in c.args.assigns.now) (filter_in c.args.filter.now))))

pub returns-then-has_wrong_assign-clause-refused : goal.returns-then-has_wrong_assign-clause-refused
returns-then-has_wrong_assign-clause-refused c =
    wrong_type c.args.schema.now (UpdateOf (name_in c.args.table.now) (map setting_in c.args.assigns.now) (filter_in c.args.filter.now)) (ap (λ b. b || false) c.in_ok-table.ensures.known) (sym (ap (λ (t : Visible). list_any (is_unknown (t ∷ [])) (update_columns (map setting_in c.args.assigns.now) (filter_in c.args.filter.now))) c.in_ok-table.ensures.found) ∙ sym c.names_unknown.ensures ∙ c.if-names_unknown.false) (ap₂ (λ a b. a || b) (ap has_twice (sym c.in_ok-written.ensures) ∙ ap (λ xs. has_twice (map (λ n. n.now) xs)) (sym c.as_slice.ensures.value) ∙ sym c.is_twice.ensures ∙ c.if-is_twice.false) (never_ambiguous (target c.args.schema.now (name_in c.args.table.now)) (update_columns (map setting_in c.args.assigns.now) (filter_in c.args.filter.now))))
    (elim c.then-has_wrong_assign.branch [
      | then-has_wrong_assign-via-then-has_wrong_assign w ↦ ap (λ b. b || filter_differs ((target c.args.schema.now (name_in c.args.table.now)) ∷ []) (filter_in c.args.filter.now)) (sym (ap (λ (t : Visible). list_any (setting_differs t) (map setting_in c.args.assigns.now)) c.in_ok-table.ensures.found) ∙ sym c.has_wrong_assign.ensures ∙ w.if-has_wrong_assign.true)
      | then-has_wrong_assign-via-else-has_wrong_assign+then-filter_differs w ↦ ap₂ (λ a b. a || b) (sym (ap (λ (t : Visible). list_any (setting_differs t) (map setting_in c.args.assigns.now)) c.in_ok-table.ensures.found) ∙ sym c.has_wrong_assign.ensures ∙ w.if-has_wrong_assign.false) (sym (ap (λ (t : Visible). filter_differs (t ∷ []) (filter_in c.args.filter.now)) c.in_ok-table.ensures.found) ∙ sym w.filter_differs.ensures ∙ w.if-filter_differs.true)
    ])

pub returns-clause-bound : goal.returns-clause-bound
unfolding bound_as
returns-clause-bound c =
    is_bound c.args.schema.now (UpdateOf (name_in c.args.table.now) (map setting_in c.args.assigns.now) (filter_in c.args.filter.now)) (ap (λ b. b || false) c.in_ok-table.ensures.known) (sym (ap (λ (t : Visible). list_any (is_unknown (t ∷ [])) (update_columns (map setting_in c.args.assigns.now) (filter_in c.args.filter.now))) c.in_ok-table.ensures.found) ∙ sym c.names_unknown.ensures ∙ c.if-names_unknown.false) (ap₂ (λ a b. a || b) (ap has_twice (sym c.in_ok-written.ensures) ∙ ap (λ xs. has_twice (map (λ n. n.now) xs)) (sym c.as_slice.ensures.value) ∙ sym c.is_twice.ensures ∙ c.if-is_twice.false) (never_ambiguous (target c.args.schema.now (name_in c.args.table.now)) (update_columns (map setting_in c.args.assigns.now) (filter_in c.args.filter.now))))
    (ap₂ (λ a b. a || b) (sym (ap (λ (t : Visible). list_any (setting_differs t) (map setting_in c.args.assigns.now)) c.in_ok-table.ensures.found) ∙ sym c.has_wrong_assign.ensures ∙ c.if-has_wrong_assign.false) (sym (ap (λ (t : Visible). filter_differs (t ∷ []) (filter_in c.args.filter.now)) c.in_ok-table.ensures.found) ∙ sym c.filter_differs.ensures ∙ c.if-filter_differs.false)) refl
    ∙ ap (λ (t : Visible). Ok (bounds.UpdateOf t.table (map (bound_setting (t ∷ [])) (map setting_in c.args.assigns.now)) (bound_filter (t ∷ []) (filter_in c.args.filter.now)))) (sym c.in_ok-table.ensures.found)
    ∙ ap₂ (λ a f. Ok (bounds.UpdateOf c.in_ok-table.table.place a f)) (sym c.in_ok-assigns.ensures) (sym c.in_ok-filter.ensures)
