use Rattle.std.proofs.Common.{◌≡◌, length}
use Rattle.phys_log.specs.Undone.{undone}
use Rattle.log_replay.specs.Chains.{CanUndo}
use Rattle.undo_snapshot.proofs.undoing.undo_each.Given as goal

abbrev pub invariant-back : goal.invariant-back
invariant-back l = record {
  can : CanUndo l.page l.rest;
  left : undone l.page l.rest ≡ undone l.fn.page l.chain;
}

abbrev pub decreases-back : goal.decreases-back
decreases-back l = length l.rest
