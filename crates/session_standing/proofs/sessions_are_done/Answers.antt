use Rattle.session_standing.proofs.EndLaws.{all_done}
use Rattle.session_standing.proofs.sessions_are_done.Goals as goal

pub returns : goal.returns
returns c = λ G s seen at standing. all_done G s seen at.number at.level at.doing standing.texts standing.stands
