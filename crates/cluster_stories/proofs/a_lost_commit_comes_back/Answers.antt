use Rattle.std.proofs.Common.{refl}
use Rattle.cluster_stories.proofs.Failover.{come_back_legal, come_back_durable}
use Rattle.cluster_stories.proofs.a_lost_commit_comes_back.Goals as goal

pub returns-clause-legal : goal.returns-clause-legal
returns-clause-legal c = come_back_legal

pub returns-clause-lines : goal.returns-clause-lines
returns-clause-lines c = refl

pub returns-clause-durable : goal.returns-clause-durable
returns-clause-durable c = come_back_durable
