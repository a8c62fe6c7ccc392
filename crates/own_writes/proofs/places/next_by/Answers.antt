use Rattle.std.proofs.Common.{◌≡◌, ◌∙◌, arith}
use Rattle.own_writes.proofs.ColumnLemmas.{later_not, either_not}
use Rattle.own_writes.proofs.places.next_by.Goals as goal

pub values-preserved : goal.values-preserved
values-preserved c = record {
  later = omega arith;
  within = λ front. c.next_for-at.ensures.within (c.values.invariant.within front);
  behind = λ past.
      let same : c.values.at ≡ c.args.from = c.values.invariant.behind past in
      c.next_for-at.ensures.behind (omega (arith, past, same)) ∙ same;
  passed = either_not c.args.stamps.now c.args.marks.now c.args.table c.args.columns.now c.args.values.now c.values.rest.now c.values.left.now c.in-Some-split_first.column.now c.in-Some.value.now c.in-Some-split_first.others.now c.in-Some.later.now
      c.args.from c.values.at c.next_for-at.result c.in-Some-split_first.ensures.cases.0 c.in-Some.ensures.cases.0 c.values.invariant.left c.values.invariant.passed c.next_for-at.ensures.passed;
  left = λ row no. c.values.invariant.left row (later_not c.values.rest.now c.values.left.now c.in-Some-split_first.column.now c.in-Some.value.now c.in-Some-split_first.others.now c.in-Some.later.now row c.in-Some-split_first.ensures.cases.0 c.in-Some.ensures.cases.0 no);
}
