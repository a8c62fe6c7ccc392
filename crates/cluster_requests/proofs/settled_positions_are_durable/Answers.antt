use Rattle.cluster_requests.proofs.Shipped.{positions_durable}
use Rattle.cluster_requests.proofs.settled_positions_are_durable.Goals as goal

pub returns : goal.returns
returns c = positions_durable
