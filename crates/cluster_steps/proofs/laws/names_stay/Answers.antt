use Rattle.cluster_steps.proofs.StaysLaws.{name_stays}
use Rattle.cluster_steps.proofs.laws.names_stay.Goals as goal

pub returns : goal.returns
returns c = name_stays
