use Rattle.std.proofs.Common.{◌≡◌, take}
use Rattle.phys_log.proofs.entries.copy_changes.Given as goal

abbrev pub invariant-loop-change : goal.invariant-loop-change
invariant-loop-change l = l.copies ≡ take l.change-index l.change-items
