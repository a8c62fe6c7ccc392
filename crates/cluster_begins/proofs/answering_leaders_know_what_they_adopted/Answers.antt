use Rattle.cluster_begins.proofs.Fresh.{always_answering}
use Rattle.cluster_begins.proofs.answering_leaders_know_what_they_adopted.Goals as goal

pub returns : goal.returns
returns g c = λ n m h x legal p. (always_answering n h legal m).pings.at x p
