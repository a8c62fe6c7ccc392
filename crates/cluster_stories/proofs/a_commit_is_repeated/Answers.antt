use Rattle.std.proofs.Common.{refl}
use Rattle.cluster_stories.proofs.Failover.{repeated_legal}
use Rattle.cluster_stories.proofs.a_commit_is_repeated.Goals as goal

pub returns-clause-legal : goal.returns-clause-legal
returns-clause-legal c = repeated_legal

pub returns-clause-lines : goal.returns-clause-lines
returns-clause-lines c = refl
