use Rattle.std.proofs.Common.{◌≡◌, ◌<◌, ◌++◌, ◌∷◌, [], ◌∙◌, ap, sym, subst, length}
use Rattle.std.specs.Prelude.{slice_set}
use Rattle.cdb_values.specs.Rows.{Rows, version, without}
use Rattle.genid_rows.proofs.PlaceLemmas.{replaced_is, unplaced, rows_of}
use Rattle.genid_rows.proofs.state.State.update.Goals as goal

pub returns-clause-replaced : goal.returns-clause-replaced
returns-clause-replaced c =
    let e : c.replaced-versions.result.0 ≡ without c.args.target c.replace_at-versions.result ++ version c.in_ok-genid.genid c.args.row.now ∷ []
    = c.replaced-versions.ensures.done c.if-not-is_replaced.false ∙ ap (λ r. without c.args.target c.replace_at-versions.result ++ version c.in_ok-genid.genid r ∷ []) c.in_ok-row.ensures in
    replaced_is _ _ _ _ _ _ _ _ _ _ _ c.self.view_is (subst (λ (r : Rows). c.args.table < length r.tables) (sym c.self.view_is) c.requires) c.in_ok-genid.ensures.genid c.replace_at-versions.ensures.before
    (c.replace_at-versions.ensures.after ∙ ap (λ l. slice_set c.self.inside.tables c.args.table l) c.new.ensures) c.replace_at-empty.ensures.after e

pub returns-then-not-is_replaced-clause-unchanged : goal.returns-then-not-is_replaced-clause-unchanged
returns-then-not-is_replaced-clause-unchanged c =
    let second = c.replace_at-empty.ensures.after ∙ ap (λ l. slice_set c.replace_at-versions.new.self c.args.table l) (c.replaced-versions.ensures.unchanged c.if-not-is_replaced.true) in
    ap (λ l. rows_of l c.self.inside.next) (unplaced _ _ _ _ _ _ c.replace_at-versions.ensures.before c.replace_at-versions.ensures.after second) ∙ c.self.view_is
