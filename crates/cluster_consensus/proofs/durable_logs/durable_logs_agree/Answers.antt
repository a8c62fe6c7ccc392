use Rattle.cluster_consensus.proofs.Laws.{agree}
use Rattle.cluster_consensus.proofs.durable_logs.durable_logs_agree.Goals as goal

pub returns : goal.returns
returns g c = agree
