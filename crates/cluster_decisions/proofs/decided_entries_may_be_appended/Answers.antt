use Rattle.cluster_decisions.proofs.DecisionLaws.{appends, decided_made}
use Rattle.cluster_decisions.proofs.decided_entries_may_be_appended.Goals as goal

pub returns-clause-appends : goal.returns-clause-appends
returns-clause-appends c = appends

pub returns-clause-made : goal.returns-clause-made
returns-clause-made c = decided_made
