use Rattle.session_barriers.proofs.WaitLaws.{has_waited}
use Rattle.session_barriers.proofs.sessions_wait.Goals as goal

pub returns : goal.returns
returns c = has_waited
