use Rattle.std.proofs.Common.{refl}
use Rattle.cluster_stories.proofs.Failover.{tail_dropped_legal, tail_dropped_heeded}
use Rattle.cluster_stories.proofs.an_arm_fires.Goals as goal

pub returns-clause-legal : goal.returns-clause-legal
returns-clause-legal c = tail_dropped_legal

pub returns-clause-by_script : goal.returns-clause-by_script
returns-clause-by_script c = tail_dropped_heeded

pub returns-clause-lines : goal.returns-clause-lines
returns-clause-lines c = refl

pub returns-clause-dropped : goal.returns-clause-dropped
returns-clause-dropped c = refl
