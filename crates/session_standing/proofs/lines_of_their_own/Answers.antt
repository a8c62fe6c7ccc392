use Rattle.session_standing.proofs.LineLaws.{own_rests}
use Rattle.session_standing.proofs.lines_of_their_own.Goals as goal

pub returns : goal.returns
returns c = own_rests
