use Rattle.log_format.specs.Readings.{IsWhole}
use Rattle.store_log.proofs.StepLemmas.{misplaced_by}
use Rattle.store_log.proofs.steps.take_next.Goals as goal

pub returns-in-Err-Misplaced : goal.returns-in-Err-Misplaced
returns-in-Err-Misplaced c =
    let w : IsWhole c.in-Whole.frame c.in-Whole.size c.args.bytes.now = rw c.in-Whole.is at c.in_ok-read_frame.ensures in
    misplaced_by c.args.held c.in-Whole.frame c.in-Whole.size c.args.bytes.now c.take.result c.in-Err-Misplaced.field-0 w
    c.in-Err-Misplaced.is c.in-Err-Misplaced.field-0-is c.take.ensures.may
