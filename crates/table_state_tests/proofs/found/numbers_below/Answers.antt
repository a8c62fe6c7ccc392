use Rattle.std.proofs.Common.{ℕ, ◌≡◌, ◌+◌, ◌<◌, ◌++◌, ◌∷◌, [], sym, subst}
use Rattle.page_workspace.specs.Spare.{IsIn}
use Rattle.table_state_tests.proofs.PastLemmas.{one_more}
use Rattle.table_state_tests.proofs.found.numbers_below.Goals as goal

pub counting-preserved : goal.counting-preserved
counting-preserved c =
    let e : c.push.new.self.items ≡ c.counting.numbers.items ++ c.counting.number ∷ [] = c.in_ok-push.ensures.items in
    subst (λ items. (n : ℕ) → n < c.counting.number + 1 → IsIn n items) (sym e)
    (one_more c.counting.number c.counting.numbers.items c.counting.invariant)
