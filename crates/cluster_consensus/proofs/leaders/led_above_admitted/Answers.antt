use Rattle.cluster_consensus.proofs.Laws.{above}
use Rattle.cluster_consensus.proofs.leaders.led_above_admitted.Goals as goal

pub returns : goal.returns
returns g c = above
