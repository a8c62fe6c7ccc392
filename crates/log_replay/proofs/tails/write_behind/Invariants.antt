use Rattle.std.proofs.Common.{◌≡◌, ◌++◌, None, take}
use Rattle.phys_log.specs.Logs.{last_lsn_of}
use Rattle.log_replay.specs.Kept.{IsKept, Roomier}
use Rattle.log_replay.proofs.tails.write_behind.Given as goal

abbrev pub invariant-loop-i : goal.invariant-loop-i
invariant-loop-i l = record {
  kept : IsKept (l.front ++ take l.i l.entries) l.pages None;
  last : l.last ≡ last_lsn_of (l.front ++ take l.i l.entries);
  roomy : Roomier l.fn.pages l.pages;
}
