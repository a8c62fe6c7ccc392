use Rattle.log_format.proofs.FrameReads.{readings_are_one}
use Rattle.log_format.proofs.laws.readings_are_apart.Goals as goal

pub returns : goal.returns
returns c = readings_are_one
