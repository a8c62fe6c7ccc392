use Rattle.cluster_events.proofs.OwnLines.{knows}
use Rattle.cluster_events.proofs.laws.a_session_knows_its_lines.Goals as goal

pub returns : goal.returns
returns c = λ G h s far. knows G far h s
