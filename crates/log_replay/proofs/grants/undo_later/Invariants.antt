use Rattle.std.proofs.Common.{◌≡◌, length}
use Rattle.phys_log.specs.Undone.{undone}
use Rattle.log_replay.specs.Chains.{granted, CanUndo}
use Rattle.log_replay.specs.Answers.{Rises}
use Rattle.log_replay.proofs.grants.undo_later.Given as goal

abbrev pub invariant-back : goal.invariant-back
invariant-back l = record {
  can : CanUndo l.page (granted l.entries l.position l.rest);
  left : undone l.page (granted l.entries l.position l.rest) ≡ undone l.fn.page (granted l.entries l.position l.links);
  rises : Rises l.rest;
}

abbrev pub decreases-back : goal.decreases-back
decreases-back l = length l.rest
