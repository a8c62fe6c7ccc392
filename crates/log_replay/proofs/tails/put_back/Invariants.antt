use Rattle.std.proofs.Common.{None, take}
use Rattle.log_replay.specs.Kept.{IsKept, Roomier}
use Rattle.log_replay.proofs.tails.put_back.Given as goal

abbrev pub invariant-loop-i : goal.invariant-loop-i
invariant-loop-i l = record {
  kept : IsKept (take l.i l.entries) l.pages None;
  roomy : Roomier l.fn.pages l.pages;
}
