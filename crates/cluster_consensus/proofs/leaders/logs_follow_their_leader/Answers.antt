use Rattle.cluster_consensus.proofs.Generations.{comparable}
use Rattle.cluster_consensus.proofs.Kept.{always}
use Rattle.cluster_consensus.proofs.leaders.logs_follow_their_leader.Goals as goal

pub returns-clause-follow : goal.returns-clause-follow
returns-clause-follow g c = λ n k h c legal m. (let f = ((always n h legal).refs k).follows.at c m in (f.by, f.adopted, f.whole))

pub returns-clause-agree : goal.returns-clause-agree
returns-clause-agree g c = λ n j k h c d legal p q e. comparable (always n h legal) j k c d p q e
