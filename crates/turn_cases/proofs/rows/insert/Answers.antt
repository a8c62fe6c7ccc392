use Rattle.std.proofs.Common.{◌≡◌, ◌+◌, ◌∙◌, ap, refl, rules}
use Rattle.std.specs.Prelude.{slice_set}
use Rattle.turn_cases.proofs.RowLemmas.{added_is}
use Rattle.turn_cases.proofs.rows.insert.Goals as goal

pub returns : goal.returns
returns c =
    let after : c.in-Some.next ≡ c.args.rows.now.next + 1 = search rules in
    added_is _ _ _ _ _ _ _ _ _ _ _ refl after c.in_ok-row.ensures c.replace_at-versions.ensures.before
    (c.replace_at-versions.ensures.after ∙ ap (λ l. slice_set c.args.rows.now.tables c.args.table l) c.new.ensures) c.in_ok-push.ensures.ok c.replace_at-empty.ensures.after
