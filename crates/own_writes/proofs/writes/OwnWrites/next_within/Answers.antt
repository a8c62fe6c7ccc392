use Rattle.std.proofs.Common.{◌≡◌, ℕ, ◌<◌, List, false, length, subst, sym}
use Rattle.std.specs.Prelude.{slice_get, Some}
use Rattle.cdb_values.specs.declared.rows.RowOp.{RowOp}
use Rattle.cdb_values.specs.declared.values.Value.{Value}
use Rattle.session_language.specs.Intervals.{are_equal}
use Rattle.own_writes.specs.Kept.{IsMarked, stamp_at}
use Rattle.own_writes.proofs.PlaceLemmas.{is_within, written_has}
use Rattle.own_writes.proofs.writes.OwnWrites.next_within.Goals as goal

pub returns-in-Some-clause-passed : goal.returns-in-Some-clause-passed
returns-in-Some-clause-passed c = λ k op row later before there wrote.
    let ops : List RowOp = c.self.inside.ops.items in
    let stamps : List ℕ = c.as_slice.result.now in
    let is : slice_get ops k ≡ Some op = subst (λ (l : List RowOp). slice_get l k ≡ Some op) (sym c.self.view_is) there in
    let here : k < length stamps = is_within c.args.from c.next_by.result (length stamps) k c.next_by.ensures.within c.next_by.ensures.behind later before in
    let marked : IsMarked c.self.inside.marks (stamp_at stamps k) op
    = subst (λ (l : List ℕ). IsMarked c.self.inside.marks (stamp_at l k) op) (sym c.as_slice.ensures.value)
    (c.self.invariant.marked k op (subst (λ (l : List ℕ). k < length l) c.as_slice.ensures.value here) is) in
    let columns : are_equal c.as_slice-in-Some.result.now c.as_slice-in-Some-2.result.now row ≡ false
    = c.next_by.ensures.passed k row later before here (written_has c.self.inside.marks (stamp_at stamps k) c.args.interval.now.table op row marked wrote) in
    c.in-Some.ensures row (subst (λ (l : List ℕ). are_equal l c.args.interval.now.equal row ≡ false) c.as_slice-in-Some.ensures
    (subst (λ (v : List Value). are_equal c.as_slice-in-Some.result.now v row ≡ false) c.as_slice-in-Some-2.ensures columns))
