use Rattle.cluster_facts.proofs.StoresLeft.{promise_stays}
use Rattle.cluster_facts.proofs.promises_stay.Goals as goal

pub returns : goal.returns
returns g c = promise_stays
