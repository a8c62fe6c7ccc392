use Rattle.std.proofs.Common.{◌≡◌, ◌++◌, ◌∷◌, [], ◌∙◌, ap}
use Rattle.std.specs.Prelude.{slice_set}
use Rattle.cdb_values.specs.Rows.{version}
use Rattle.genid_rows.proofs.PlaceLemmas.{added_is, unplaced, rows_of}
use Rattle.genid_rows.proofs.state.State.insert.Goals as goal

pub returns-clause-added : goal.returns-clause-added
returns-clause-added c =
    let e : c.lengthened-versions.result.0 ≡ c.replace_at-versions.result ++ version c.in_ok-genid.genid c.args.row.now ∷ []
    = c.lengthened-versions.ensures.done c.if-not-is_longer.false ∙ ap (λ r. c.replace_at-versions.result ++ version c.in_ok-genid.genid r ∷ []) c.in_ok-row.ensures in
    added_is _ _ _ _ _ _ _ _ _ _ c.self.view_is c.in_ok-genid.ensures.genid c.replace_at-versions.ensures.before
    (c.replace_at-versions.ensures.after ∙ ap (λ l. slice_set c.self.inside.tables c.args.table l) c.new.ensures) c.replace_at-empty.ensures.after e

pub returns-then-not-is_longer-clause-unchanged : goal.returns-then-not-is_longer-clause-unchanged
returns-then-not-is_longer-clause-unchanged c =
    let second = c.replace_at-empty.ensures.after ∙ ap (λ l. slice_set c.replace_at-versions.new.self c.args.table l) (c.lengthened-versions.ensures.unchanged c.if-not-is_longer.true) in
    ap (λ l. rows_of l c.self.inside.next) (unplaced _ _ _ _ _ _ c.replace_at-versions.ensures.before c.replace_at-versions.ensures.after second) ∙ c.self.view_is
