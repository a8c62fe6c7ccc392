use Rattle.cluster_facts.proofs.StoresLeft.{left_fit}
use Rattle.cluster_facts.proofs.stores_left_fit_again.Goals as goal

pub returns : goal.returns
returns g c = left_fit
