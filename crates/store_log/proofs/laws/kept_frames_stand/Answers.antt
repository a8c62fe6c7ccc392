use Rattle.store_log.proofs.KeptLaws.{kept_hold}
use Rattle.store_log.proofs.laws.kept_frames_stand.Goals as goal

pub returns : goal.returns
returns c = kept_hold
