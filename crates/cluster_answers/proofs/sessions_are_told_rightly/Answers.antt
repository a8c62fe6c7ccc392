use Rattle.cluster_answers.proofs.ToldLaws.{replies_right}
use Rattle.cluster_answers.proofs.sessions_are_told_rightly.Goals as goal

pub returns : goal.returns
returns c = replies_right
