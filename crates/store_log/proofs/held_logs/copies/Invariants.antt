use Rattle.std.proofs.Common.{◌≡◌, take}
use Rattle.store_log.proofs.held_logs.copies.Given as goal

abbrev pub invariant-loop-entry : goal.invariant-loop-entry
invariant-loop-entry l = l.copies ≡ take l.entry-index l.entries
