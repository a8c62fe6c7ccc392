use Rattle.session_outcomes.proofs.LearnLaws.{learned_kept}
use Rattle.session_outcomes.proofs.commits_are_learned.Goals as goal

pub returns : goal.returns
returns c = learned_kept
