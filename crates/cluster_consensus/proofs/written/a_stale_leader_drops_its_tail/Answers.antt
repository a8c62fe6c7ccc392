use Rattle.std.proofs.Common.{refl}
use Rattle.cluster_consensus.proofs.ThreeNodes.{dropped_legal, newer_durable}
use Rattle.cluster_consensus.proofs.written.a_stale_leader_drops_its_tail.Goals as goal

pub returns-clause-legal : goal.returns-clause-legal
returns-clause-legal c = dropped_legal

pub returns-clause-stale : goal.returns-clause-stale
returns-clause-stale c = (refl, refl)

pub returns-clause-newer : goal.returns-clause-newer
returns-clause-newer c = (refl, refl)

pub returns-clause-durable : goal.returns-clause-durable
returns-clause-durable c = newer_durable

pub returns-clause-dropped : goal.returns-clause-dropped
returns-clause-dropped c = (refl, refl)
