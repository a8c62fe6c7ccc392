use Rattle.cluster_core.proofs.DurableLaws.{logs_begin}
use Rattle.cluster_core.proofs.laws.later_generations_keep_durable_logs.Goals as goal

pub returns : goal.returns
returns c = logs_begin
