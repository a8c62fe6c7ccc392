use Rattle.std.proofs.Common.{◌∙◌, ap}
use Rattle.std.specs.Prelude.{slice_set}
use Rattle.turn_cases.proofs.RowLemmas.{taken_is}
use Rattle.turn_cases.proofs.rows.delete.Goals as goal

pub returns : goal.returns
returns c =
    taken_is _ _ _ _ _ _ _ _ c.replace_at-versions.ensures.before
    (c.replace_at-versions.ensures.after ∙ ap (λ l. slice_set c.args.rows.now.tables c.args.table l) c.new.ensures) c.without-versions.ensures c.replace_at-empty.ensures.after
