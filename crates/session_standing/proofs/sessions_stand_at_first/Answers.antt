use Rattle.session_standing.proofs.EndLaws.{first_stands}
use Rattle.session_standing.proofs.sessions_stand_at_first.Goals as goal

pub returns : goal.returns
returns c = first_stands
