use Rattle.cluster_decisions.proofs.NamedLaws.{names}
use Rattle.cluster_decisions.proofs.decided_entries_are_named.Goals as goal

pub returns : goal.returns
returns c = names
