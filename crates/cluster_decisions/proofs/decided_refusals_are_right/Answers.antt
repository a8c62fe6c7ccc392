use Rattle.cluster_decisions.proofs.DecisionLaws.{duplicates, conflicts}
use Rattle.cluster_decisions.proofs.decided_refusals_are_right.Goals as goal

pub returns-clause-duplicates : goal.returns-clause-duplicates
returns-clause-duplicates c = duplicates

pub returns-clause-conflicts : goal.returns-clause-conflicts
returns-clause-conflicts c = conflicts
