use Rattle.cluster_core.proofs.DurableLaws.{positions_durable, positions_within, positions_stay}
use Rattle.cluster_core.proofs.laws.known_positions_stay.Goals as goal

pub returns-clause-durable : goal.returns-clause-durable
returns-clause-durable c = positions_durable

pub returns-clause-within : goal.returns-clause-within
returns-clause-within c = positions_within

pub returns-clause-stays : goal.returns-clause-stays
returns-clause-stays c = positions_stay
