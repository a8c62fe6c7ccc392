use Rattle.cluster_decisions.proofs.AskedLaws.{asked_at, of_log}
use Rattle.cluster_decisions.proofs.requests_are_asked.Goals as goal

pub returns-clause-asked : goal.returns-clause-asked
returns-clause-asked c = λ G h i sent request legal. asked_at G h legal i sent request

pub returns-clause-of_log : goal.returns-clause-of_log
returns-clause-of_log c = λ G h i sent request legal. of_log G h legal i sent request
