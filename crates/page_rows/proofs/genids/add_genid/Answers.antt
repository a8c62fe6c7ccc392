-- The genids before, and one more.
use Rattle.std.proofs.Common.{ℕ, List, [], ◌∷◌, ◌++◌, sym, subst}
use Rattle.std.proofs.lemmas.Option.{same_Some}
use Rattle.page_workspace.specs.Spare.{IsIn}
use Rattle.page_workspace.proofs.InLaws.{in_more, in_end}
use Rattle.page_rows.proofs.genids.add_genid.Goals as goal

pub returns-in_ok-push-in-Some-clause-kept : goal.returns-in_ok-push-in-Some-clause-kept
returns-in_ok-push-in-Some-clause-kept c = λ genid i.
    subst (λ (l : List ℕ). IsIn genid l) (sym c.in_ok-push-in-Some.ensures.items) (in_more genid c.in-Some.genid c.args.genids.now.items i)

pub returns-in_ok-push-in-Some-clause-added : goal.returns-in_ok-push-in-Some-clause-added
returns-in_ok-push-in-Some-clause-added c = λ genid code small e.
    let same = same_Some c.in-Some.genid genid (c.in-Some.ensures genid code small e) in
    subst (λ (l : List ℕ). IsIn genid l) (sym c.in_ok-push-in-Some.ensures.items)
    (subst (λ (n : ℕ). IsIn n (c.args.genids.now.items ++ c.in-Some.genid ∷ [])) same (in_end c.in-Some.genid c.args.genids.now.items))
