use Rattle.store_log.proofs.CutLaws as cuts
use Rattle.store_log.proofs.laws.cut_frames_stand.Goals as goal

pub returns : goal.returns
returns c = cuts.cut_frames_stand
