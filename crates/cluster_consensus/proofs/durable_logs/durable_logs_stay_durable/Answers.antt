use Rattle.cluster_consensus.proofs.Laws.{durable_stays}
use Rattle.cluster_consensus.proofs.durable_logs.durable_logs_stay_durable.Goals as goal

pub returns : goal.returns
returns g c = durable_stays
