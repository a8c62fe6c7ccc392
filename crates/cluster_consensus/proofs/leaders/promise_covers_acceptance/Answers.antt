use Rattle.cluster_consensus.proofs.Kept.{always}
use Rattle.cluster_consensus.proofs.leaders.promise_covers_acceptance.Goals as goal

pub returns : goal.returns
returns g c = λ n i h legal. ((always n h legal).local i).below
