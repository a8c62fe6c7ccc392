use Rattle.std.proofs.Common.{refl}
use Rattle.cluster_stories.proofs.Failover.{repeated_on_legal}
use Rattle.cluster_stories.proofs.a_session_moves.Goals as goal

pub returns-clause-legal : goal.returns-clause-legal
returns-clause-legal c = repeated_on_legal

pub returns-clause-lines : goal.returns-clause-lines
returns-clause-lines c = refl
