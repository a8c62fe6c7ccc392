use Rattle.cluster_begins.proofs.Since.{begin_durable}
use Rattle.cluster_begins.proofs.begin_positions_are_durable.Goals as goal

pub returns : goal.returns
returns g c = begin_durable
