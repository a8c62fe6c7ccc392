use Rattle.session_fronts.proofs.CommitLaws.{committed_known}
use Rattle.session_fronts.proofs.commits_are_known.Goals as goal

pub returns : goal.returns
returns c = λ G h id position k legal. committed_known G h legal id position k
