use Rattle.std.proofs.Common.{◌||◌, ◌∷◌, [], false, not, ◌==◌, length, map, Ok, ap, ap₂, sym, ◌∙◌}
use Rattle.std.specs.List.{list_any}
use Rattle.std.proofs.lemmas.Result.{err_from_is_err_and}
use Rattle.sql_grammar.specs.Trees.{InsertInto}
use Rattle.sql_grammar.specs.Views.{name_in, tuple_in}
use Rattle.sql_bind.specs.Bound.{BoundStatement}
use Rattle.sql_bind.specs.Bound as bounds
use Rattle.sql_bind.specs.Faults.{own_columns, tuple_differs, tuple_kinds, width}
use Rattle.sql_bind.specs.Meaning.{bound_as, bound_row}
use Rattle.sql_bind.specs.Scope.{Visible, target, is_unknown_table, is_unknown}
use Rattle.sql_bind.specs.Seen.{names_in_list}
use Rattle.sql_bind.proofs.BindingLemmas.{no_table, no_column, two_meanings, wrong_type, wrong_count, is_bound, never_ambiguous, missed}
use Rattle.sql_bind.proofs.binding.insert.Goals as goal

pub returns-in_err-table-clause-refused : goal.returns-in_err-table-clause-refused
returns-in_err-table-clause-refused c =
    let stop = err_from_is_err_and c.from_residual.result c.from_residual.ensures.1 in
    rw (stop.1, stop.2)
    (missed c.in_err-table.field-0.0 (is_unknown_table c.args.schema.now (name_in c.args.table.now)) _ c.in_err-table.ensures.refused
    (λ unknown. no_table c.args.schema.now (InsertInto (name_in c.args.table.now) (names_in_list c.args.columns.now) (map tuple_in c.args.tuples.now)) (ap (λ b. b || false) unknown)))

pub returns-then-lists_unknown-clause-refused : goal.returns-then-lists_unknown-clause-refused
returns-then-lists_unknown-clause-refused c =
    no_column c.args.schema.now (InsertInto (name_in c.args.table.now) (names_in_list c.args.columns.now) (map tuple_in c.args.tuples.now)) (ap (λ b. b || false) c.in_ok-table.ensures.known) (sym (ap (λ (t : Visible). list_any (is_unknown (t ∷ [])) (own_columns (names_in_list c.args.columns.now))) c.in_ok-table.ensures.found) ∙ sym c.lists_unknown.ensures ∙ c.if-lists_unknown.true)

pub returns-then-twice-clause-refused : goal.returns-then-twice-clause-refused
returns-then-twice-clause-refused c =
    two_meanings c.args.schema.now (InsertInto (name_in c.args.table.now) (names_in_list c.args.columns.now) (map tuple_in c.args.tuples.now)) (ap (λ b. b || false) c.in_ok-table.ensures.known) (sym (ap (λ (t : Visible). list_any (is_unknown (t ∷ [])) (own_columns (names_in_list c.args.columns.now))) c.in_ok-table.ensures.found) ∙ sym c.lists_unknown.ensures ∙ c.if-lists_unknown.false) (ap₂ (λ a b. a || b) (sym c.in_ok-twice.ensures ∙ c.if-twice.true) (never_ambiguous (target c.args.schema.now (name_in c.args.table.now)) (own_columns (names_in_list c.args.columns.now))))

pub returns-then-wrong-clause-refused : goal.returns-then-wrong-clause-refused
returns-then-wrong-clause-refused c =
    wrong_type c.args.schema.now (InsertInto (name_in c.args.table.now) (names_in_list c.args.columns.now) (map tuple_in c.args.tuples.now)) (ap (λ b. b || false) c.in_ok-table.ensures.known) (sym (ap (λ (t : Visible). list_any (is_unknown (t ∷ [])) (own_columns (names_in_list c.args.columns.now))) c.in_ok-table.ensures.found) ∙ sym c.lists_unknown.ensures ∙ c.if-lists_unknown.false) (ap₂ (λ a b. a || b) (sym c.in_ok-twice.ensures ∙ c.if-twice.false) (never_ambiguous (target c.args.schema.now (name_in c.args.table.now)) (own_columns (names_in_list c.args.columns.now)))) (sym (ap (λ (t : Visible). list_any (tuple_differs (tuple_kinds t (names_in_list c.args.columns.now))) (map tuple_in c.args.tuples.now)) c.in_ok-table.ensures.found) ∙ sym c.in_ok-wrong.ensures ∙ c.if-wrong.true)

pub returns-then-has_wrong_count-clause-refused : goal.returns-then-has_wrong_count-clause-refused
returns-then-has_wrong_count-clause-refused c =
    wrong_count c.args.schema.now (InsertInto (name_in c.args.table.now) (names_in_list c.args.columns.now) (map tuple_in c.args.tuples.now)) (ap (λ b. b || false) c.in_ok-table.ensures.known) (sym (ap (λ (t : Visible). list_any (is_unknown (t ∷ [])) (own_columns (names_in_list c.args.columns.now))) c.in_ok-table.ensures.found) ∙ sym c.lists_unknown.ensures ∙ c.if-lists_unknown.false) (ap₂ (λ a b. a || b) (sym c.in_ok-twice.ensures ∙ c.if-twice.false) (never_ambiguous (target c.args.schema.now (name_in c.args.table.now)) (own_columns (names_in_list c.args.columns.now)))) (sym (ap (λ (t : Visible). list_any (tuple_differs (tuple_kinds t (names_in_list c.args.columns.now))) (map tuple_in c.args.tuples.now)) c.in_ok-table.ensures.found) ∙ sym c.in_ok-wrong.ensures ∙ c.if-wrong.false) (sym (ap (λ (t : Visible). list_any (λ row. not (length row == width t (names_in_list c.args.columns.now))) (map tuple_in c.args.tuples.now)) c.in_ok-table.ensures.found) ∙ ap (λ n. list_any (λ row. not (length row == n)) (map tuple_in c.args.tuples.now)) (sym c.width.ensures) ∙ sym c.has_wrong_count.ensures ∙ c.if-has_wrong_count.true)

pub returns-clause-bound : goal.returns-clause-bound
unfolding bound_as
returns-clause-bound c =
    is_bound c.args.schema.now (InsertInto (name_in c.args.table.now) (names_in_list c.args.columns.now) (map tuple_in c.args.tuples.now)) (ap (λ b. b || false) c.in_ok-table.ensures.known) (sym (ap (λ (t : Visible). list_any (is_unknown (t ∷ [])) (own_columns (names_in_list c.args.columns.now))) c.in_ok-table.ensures.found) ∙ sym c.lists_unknown.ensures ∙ c.if-lists_unknown.false) (ap₂ (λ a b. a || b) (sym c.in_ok-twice.ensures ∙ c.if-twice.false) (never_ambiguous (target c.args.schema.now (name_in c.args.table.now)) (own_columns (names_in_list c.args.columns.now)))) (sym (ap (λ (t : Visible). list_any (tuple_differs (tuple_kinds t (names_in_list c.args.columns.now))) (map tuple_in c.args.tuples.now)) c.in_ok-table.ensures.found) ∙ sym c.in_ok-wrong.ensures ∙ c.if-wrong.false) (sym (ap (λ (t : Visible). list_any (λ row. not (length row == width t (names_in_list c.args.columns.now))) (map tuple_in c.args.tuples.now)) c.in_ok-table.ensures.found) ∙ ap (λ n. list_any (λ row. not (length row == n)) (map tuple_in c.args.tuples.now)) (sym c.width.ensures) ∙ sym c.has_wrong_count.ensures ∙ c.if-has_wrong_count.false)
    ∙ ap (λ (t : Visible). Ok (bounds.InsertInto t.table (map (bound_row t (names_in_list c.args.columns.now)) (map tuple_in c.args.tuples.now)))) (sym c.in_ok-table.ensures.found)
    ∙ ap (λ rows. Ok (bounds.InsertInto c.in_ok-table.table.place rows)) (sym c.in_ok-rows.ensures)
