use Rattle.std.proofs.Common.{rules, ◌≡◌, suc, ◌-◌, ◌+◌, length, eqb, true, false, arith}
use Rattle.report_read.specs.Reading.{drafted, empty_draft}
use Rattle.report_read.proofs.ReadLemmas.{all_drafted, no_turn_left, no_item, no_place, next_item}
use Rattle.report_read.proofs.reading.read_draft.Goals as goal

pub returns-then-is_empty : goal.returns-then-is_empty
returns-then-is_empty c =
    let h : eqb (length c.items.rest.now) 0 ≡ true = search rules in
    all_drafted (length c.args.bytes.now - c.items.counter) c.items.draft c.items.rest.now (drafted (length c.args.bytes.now) empty_draft c.args.bytes.now) h c.items.invariant

pub returns-in_default : goal.returns-in_default
returns-in_default c =
    let h : eqb (length c.items.rest.now) 0 ≡ false = search rules in
    let fewer : length c.args.bytes.now - c.items.counter ≡ suc (length c.args.bytes.now - (c.items.counter + 1)) = omega arith in
    no_item (length c.args.bytes.now - c.items.counter) (length c.args.bytes.now - (c.items.counter + 1)) c.items.draft c.items.rest.now (drafted (length c.args.bytes.now) empty_draft c.args.bytes.now) fewer h (rw c.in_default.is at c.in_ok-item.ensures) c.items.invariant

pub returns-in_default-2 : goal.returns-in_default-2
returns-in_default-2 c =
    let h : eqb (length c.items.rest.now) 0 ≡ false = search rules in
    let fewer : length c.args.bytes.now - c.items.counter ≡ suc (length c.args.bytes.now - (c.items.counter + 1)) = omega arith in
    no_place (length c.args.bytes.now - c.items.counter) (length c.args.bytes.now - (c.items.counter + 1)) c.items.draft c.items.rest.now c.in-Some.after.now c.in-Some.item (drafted (length c.args.bytes.now) empty_draft c.args.bytes.now) fewer h (rw c.in-Some.is at c.in_ok-item.ensures) (rw c.in_default-2.is at c.in_ok-next.ensures) c.items.invariant

pub items-preserved : goal.items-preserved
items-preserved c =
    let h : eqb (length c.items.rest.now) 0 ≡ false = search rules in
    let fewer : length c.args.bytes.now - c.items.counter ≡ suc (length c.args.bytes.now - (c.items.counter + 1)) = omega arith in
    next_item (length c.args.bytes.now - c.items.counter) (length c.args.bytes.now - (c.items.counter + 1)) c.items.draft c.in-Some-2.next c.items.rest.now c.in-Some.after.now c.in-Some.item (drafted (length c.args.bytes.now) empty_draft c.args.bytes.now) fewer h (rw c.in-Some.is at c.in_ok-item.ensures) (rw c.in-Some-2.is at c.in_ok-next.ensures) c.items.invariant

pub returns-then-is_empty-2 : goal.returns-then-is_empty-2
returns-then-is_empty-2 c =
    let h : eqb (length c.items.rest.now) 0 ≡ true = search rules in
    all_drafted (length c.args.bytes.now - c.items.counter) c.items.draft c.items.rest.now (drafted (length c.args.bytes.now) empty_draft c.args.bytes.now) h c.items.invariant

pub returns-else-is_empty-2 : goal.returns-else-is_empty-2
returns-else-is_empty-2 c =
    let h : eqb (length c.items.rest.now) 0 ≡ false = search rules in
    let none : length c.args.bytes.now - c.items.counter ≡ 0 = omega arith in
    no_turn_left (length c.args.bytes.now - c.items.counter) c.items.draft c.items.rest.now (drafted (length c.args.bytes.now) empty_draft c.args.bytes.now) none h c.items.invariant
