use Rattle.frame_code.proofs.FrontLaws.{no_frames}
use Rattle.frame_code.proofs.laws.fronts_are_no_frames.Goals as goal

pub returns : goal.returns
returns c = no_frames
