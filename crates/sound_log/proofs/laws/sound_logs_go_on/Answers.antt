use Rattle.sound_log.proofs.GoOnLemmas.{sound_on}
use Rattle.sound_log.proofs.laws.sound_logs_go_on.Goals as goal

pub returns : goal.returns
returns c = sound_on
