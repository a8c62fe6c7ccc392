use Rattle.cluster_core.proofs.DurableLaws.{logs_agree}
use Rattle.cluster_core.proofs.laws.durable_logs_agree.Goals as goal

pub returns : goal.returns
returns c = logs_agree
