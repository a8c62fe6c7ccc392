use Rattle.cluster_sessions.proofs.SendLaws.{sends_by_name}
use Rattle.cluster_sessions.proofs.commits_are_sent_by_name.Goals as goal

pub returns : goal.returns
returns c = sends_by_name
