use Rattle.frame_code.proofs.FrontLaws.{fronts_are_short, frames_have_fronts}
use Rattle.frame_code.proofs.laws.envelopes_have_fronts.Goals as goal

pub returns : goal.returns
returns c = record { envelopes = fronts_are_short; frames = frames_have_fronts }
