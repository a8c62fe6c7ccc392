use Rattle.std.proofs.Common.{length}
use Rattle.frame_code.specs.Spelled.{IsRecord}
use Rattle.entry_spelling.proofs.RestLemmas.{IsRest}
use Rattle.entry_spelling.proofs.records.are_records.Given as goal

abbrev pub invariant-records : goal.invariant-records
invariant-records l = IsRest IsRecord l.rest l.records

abbrev pub decreases-records : goal.decreases-records
decreases-records l = length l.rest
