use Rattle.session_fronts.proofs.KnownLaws.{known_stays}
use Rattle.session_fronts.proofs.what_is_known_stays.Goals as goal

pub returns : goal.returns
returns c = λ G later h o legal known. known_stays G later h legal o known
