-- A page that was not edited, written back, changes nothing.
use Rattle.std.proofs.Common.{◌≡◌, nat_eq, ap, sym, ◌∙◌}
use Rattle.std.proofs.lemmas.Map.Steps.{set_value_same}
use Rattle.page_workspace.proofs.OwnLaws.{err_all}
use Rattle.page_workspace.proofs.owns.apply_own.Goals as goal

pub returns-clause-unchanged : goal.returns-clause-unchanged
returns-clause-unchanged c =
    let page = c.in-Some.page.now in
    err_all c.apply.result (λ (same : c.apply.new.page ≡ page). ap (λ w. (c.get_mut.follows.lender w).entries) same
    ∙ (c.get_mut.follows.holds page).0
    ∙ set_value_same (nat_eq c.args.id) c.args.owns.now.entries page (sym c.in-Some.ensures.value))
    c.apply.ensures.unchanged
