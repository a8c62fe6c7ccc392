use Rattle.election_core.proofs.Enabling.{stand_enabled}
use Rattle.election_core.proofs.laws.standing_is_enabled.Goals as goal

pub returns-clause-enabled : goal.returns-clause-enabled
returns-clause-enabled g c = λ n w v g p m. (stand_enabled n w v g p m).0

pub returns-clause-part : goal.returns-clause-part
returns-clause-part g c = λ n w v g p m. (stand_enabled n w v g p m).1
