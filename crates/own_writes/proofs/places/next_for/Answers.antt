use Rattle.std.proofs.Common.{◌≡◌, ℕ, false, subst}
use Rattle.own_writes.specs.Kept.{has, stamp_at}
use Rattle.own_writes.proofs.MarkLemmas.{passed_by}
use Rattle.own_writes.proofs.places.next_for.Goals as goal

pub returns-clause-passed : goal.returns-clause-passed
returns-clause-passed c = λ k row later below within marked.
    passed_by c.args.marks.now (stamp_at c.args.stamps.now k) c.args.table c.args.column row c.args.value.now marked
    (subst (λ (m : ℕ). has c.args.marks.now m (stamp_at c.args.stamps.now k) ≡ false) c.column_mark-mark.ensures.mark (c.next_place.ensures.passed k later below within))
