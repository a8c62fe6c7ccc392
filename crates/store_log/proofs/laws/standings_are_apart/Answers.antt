use Rattle.store_log.proofs.HeldLaws.{one_standing}
use Rattle.store_log.proofs.laws.standings_are_apart.Goals as goal

pub returns : goal.returns
returns c = one_standing
