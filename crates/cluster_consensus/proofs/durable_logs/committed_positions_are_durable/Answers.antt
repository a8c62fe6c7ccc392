use Rattle.cluster_consensus.proofs.Commits.{committed}
use Rattle.cluster_consensus.proofs.Kept.{always}
use Rattle.cluster_consensus.proofs.durable_logs.committed_positions_are_durable.Goals as goal

pub returns : goal.returns
returns g c = λ n k h f legal can. committed (always n h legal) k f can
