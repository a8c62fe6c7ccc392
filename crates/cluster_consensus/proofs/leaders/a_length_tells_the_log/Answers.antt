use Rattle.cluster_consensus.proofs.Lengths.{front_found}
use Rattle.cluster_consensus.proofs.Kept.{always}
use Rattle.cluster_consensus.proofs.leaders.a_length_tells_the_log.Goals as goal

pub returns : goal.returns
returns g c = λ n g m h s l legal pos lt hs sg p. front_found (always n h legal) g m n s l hs sg p pos lt
