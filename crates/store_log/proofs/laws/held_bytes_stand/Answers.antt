use Rattle.store_log.proofs.KeptLaws.{held_stand}
use Rattle.store_log.proofs.laws.held_bytes_stand.Goals as goal

pub returns : goal.returns
returns c = held_stand
