use Rattle.node_log.proofs.SameLaws.{same_log, log_among}
use Rattle.node_log.proofs.laws.stores_tell_one_log.Goals as goal

pub returns-clause-same : goal.returns-clause-same
returns-clause-same c = same_log

pub returns-clause-among : goal.returns-clause-among
returns-clause-among c = log_among
