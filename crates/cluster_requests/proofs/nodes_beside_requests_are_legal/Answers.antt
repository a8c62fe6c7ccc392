use Rattle.cluster_requests.proofs.StepLaws.{core_is, steps_legal}
use Rattle.cluster_requests.proofs.nodes_beside_requests_are_legal.Goals as goal

pub returns-clause-core : goal.returns-clause-core
returns-clause-core c = core_is

pub returns-clause-legal : goal.returns-clause-legal
returns-clause-legal c = steps_legal
