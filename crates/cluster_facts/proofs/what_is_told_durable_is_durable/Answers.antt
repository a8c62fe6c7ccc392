use Rattle.cluster_facts.proofs.ToldLaws.{told_durable}
use Rattle.cluster_facts.proofs.what_is_told_durable_is_durable.Goals as goal

pub returns : goal.returns
returns g c = told_durable
