use Rattle.cluster_requests.proofs.Settled.{settled_same}
use Rattle.cluster_requests.proofs.settled_stays_out.Goals as goal

pub returns : goal.returns
returns c = settled_same
