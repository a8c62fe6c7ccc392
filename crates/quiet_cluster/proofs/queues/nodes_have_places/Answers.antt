use Rattle.quiet_cluster.proofs.Places.{beyond, set_other, set_self}
use Rattle.quiet_cluster.proofs.queues.nodes_have_places.Goals as goal

pub returns-clause-set : goal.returns-clause-set
returns-clause-set c = set_self

pub returns-clause-others : goal.returns-clause-others
returns-clause-others c = set_other

pub returns-clause-beyond : goal.returns-clause-beyond
returns-clause-beyond c = beyond
