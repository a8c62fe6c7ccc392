use Rattle.sound_log.proofs.GrowthLemmas.{sound_later}
use Rattle.sound_log.proofs.laws.sound_logs_stay_sound.Goals as goal

pub returns : goal.returns
returns c = sound_later
