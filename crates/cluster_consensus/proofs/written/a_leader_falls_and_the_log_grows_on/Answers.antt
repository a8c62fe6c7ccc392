use Rattle.std.proofs.Common.{refl}
use Rattle.cluster_consensus.proofs.ThreeNodes.{grown_legal, one_durable, both_durable}
use Rattle.cluster_consensus.proofs.written.a_leader_falls_and_the_log_grows_on.Goals as goal

pub returns-clause-legal : goal.returns-clause-legal
returns-clause-legal c = grown_legal

pub returns-clause-durable : goal.returns-clause-durable
returns-clause-durable c = one_durable

pub returns-clause-fallen : goal.returns-clause-fallen
returns-clause-fallen c = refl

pub returns-clause-grown : goal.returns-clause-grown
returns-clause-grown c = both_durable
