-- the frames before the offset are held
use Rattle.std.proofs.Common.{length}
use Rattle.store_log.specs.Steps.{IsReadTo}
use Rattle.store_log.proofs.readings.frames_standing.Given as goal

abbrev pub invariant-frames : goal.invariant-frames
invariant-frames l = IsReadTo l.node l.cluster l.bytes l.held l.rest l.at

abbrev pub decreases-frames : goal.decreases-frames
decreases-frames l = length l.rest
