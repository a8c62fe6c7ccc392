use Rattle.store_log.proofs.KeptLaws.{left_stand}
use Rattle.store_log.proofs.laws.left_frames_stand.Goals as goal

pub returns : goal.returns
returns c = left_stand
