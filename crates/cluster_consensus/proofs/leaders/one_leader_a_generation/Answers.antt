use Rattle.cluster_consensus.proofs.Laws.{one}
use Rattle.cluster_consensus.proofs.leaders.one_leader_a_generation.Goals as goal

pub returns : goal.returns
returns g c = one
