use Rattle.cluster_steps.proofs.TellsLaws.{tells}
use Rattle.cluster_steps.proofs.laws.what_was_told_stays_told.Goals as goal

pub returns : goal.returns
returns c = tells
