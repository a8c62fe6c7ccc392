use Rattle.std.proofs.Common.{◌≡◌, suc, ◌-◌, ◌+◌, length, arith}
use Rattle.report_read.specs.Reading.{with_first, more_values_at}
use Rattle.report_read.proofs.CodedLemmas.{front_more, front_end, front_dead}
use Rattle.report_read.proofs.ValueLemmas.{no_bar, no_value_at, one_value, no_more}
use Rattle.report_read.proofs.values.read_more.Goals as goal

pub returns-in_default : goal.returns-in_default
returns-in_default c =
    front_end c.values.row c.values.rest.now (more_values_at (length c.args.bytes.now - c.values.counter) c.values.rest.now) (with_first c.args.first (more_values_at (length c.args.bytes.now) c.args.bytes.now)) c.values.invariant
    (no_bar (length c.args.bytes.now - c.values.counter) c.values.rest.now c.in_default.ensures)

pub returns-in_default-2 : goal.returns-in_default-2
returns-in_default-2 c =
    let fewer : length c.args.bytes.now - c.values.counter ≡ suc (length c.args.bytes.now - (c.values.counter + 1)) = omega arith in
    front_dead c.values.row (more_values_at (length c.args.bytes.now - c.values.counter) c.values.rest.now) (with_first c.args.first (more_values_at (length c.args.bytes.now) c.args.bytes.now)) c.values.invariant
    (no_value_at (length c.args.bytes.now - c.values.counter) (length c.args.bytes.now - (c.values.counter + 1)) c.values.rest.now c.in-Some.behind_bar.now fewer c.in-Some.ensures (rw c.in_default-2.is at c.in_ok-value.ensures))

pub values-preserved : goal.values-preserved
values-preserved c =
    let fewer : length c.args.bytes.now - c.values.counter ≡ suc (length c.args.bytes.now - (c.values.counter + 1)) = omega arith in
    rw c.in_ok-push-2.ensures.ok (front_more c.values.row c.in-Some-2.value (more_values_at (length c.args.bytes.now - c.values.counter) c.values.rest.now) (more_values_at (length c.args.bytes.now - (c.values.counter + 1)) c.in-Some-2.after.now) (with_first c.args.first (more_values_at (length c.args.bytes.now) c.args.bytes.now)) c.values.invariant
    (one_value (length c.args.bytes.now - c.values.counter) (length c.args.bytes.now - (c.values.counter + 1)) c.values.rest.now c.in-Some.behind_bar.now c.in-Some-2.after.now c.in-Some-2.value fewer c.in-Some.ensures (rw c.in-Some-2.is at c.in_ok-value.ensures)))

pub returns : goal.returns
returns c =
    front_end c.values.row c.values.rest.now (more_values_at (length c.args.bytes.now - c.values.counter) c.values.rest.now) (with_first c.args.first (more_values_at (length c.args.bytes.now) c.args.bytes.now)) c.values.invariant
    (no_more (length c.args.bytes.now - c.values.counter) c.values.rest.now (omega arith))
