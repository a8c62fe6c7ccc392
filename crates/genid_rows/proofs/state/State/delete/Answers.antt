use Rattle.std.proofs.Common.{◌∙◌, ap}
use Rattle.std.specs.Prelude.{slice_set}
use Rattle.genid_rows.proofs.PlaceLemmas.{taken_is}
use Rattle.genid_rows.proofs.state.State.delete.Goals as goal

pub returns : goal.returns
returns c =
    taken_is _ _ _ _ _ _ _ _ _ c.self.view_is c.replace_at-versions.ensures.before
    (c.replace_at-versions.ensures.after ∙ ap (λ l. slice_set c.self.inside.tables c.args.table l) c.new.ensures) c.replace_at-empty.ensures.after c.kept-versions.ensures
