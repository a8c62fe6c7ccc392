use Rattle.cluster_requests.proofs.Shipped.{repeat_stands}
use Rattle.cluster_requests.proofs.repeats_are_committed.Goals as goal

pub returns : goal.returns
returns c = repeat_stands
