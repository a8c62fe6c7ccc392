use Rattle.cluster_consensus.proofs.Laws.{known_durable, known_within, known_stays}
use Rattle.cluster_consensus.proofs.durable_logs.known_positions_stay.Goals as goal

pub returns-clause-durable : goal.returns-clause-durable
returns-clause-durable g c = known_durable

pub returns-clause-within : goal.returns-clause-within
returns-clause-within g c = known_within

pub returns-clause-stays : goal.returns-clause-stays
returns-clause-stays g c = known_stays
