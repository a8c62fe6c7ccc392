use Rattle.cluster_sessions.proofs.KeptLaws.{kept_by}
use Rattle.cluster_sessions.proofs.a_leader_tells_what_is_committed.Goals as goal

pub returns : goal.returns
returns c = kept_by
