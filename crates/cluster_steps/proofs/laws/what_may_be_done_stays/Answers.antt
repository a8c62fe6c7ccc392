use Rattle.cluster_steps.proofs.StaysLaws.{stays}
use Rattle.cluster_steps.proofs.laws.what_may_be_done_stays.Goals as goal

pub returns : goal.returns
returns c = stays
