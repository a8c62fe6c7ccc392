use Rattle.frame_code.proofs.FrameLaws.{frames_are_told, frames_begin_no_other}
use Rattle.frame_code.proofs.laws.frames_tell.Goals as goal

pub returns : goal.returns
returns c = record { tells = frames_are_told; begins_no_other = frames_begin_no_other }
