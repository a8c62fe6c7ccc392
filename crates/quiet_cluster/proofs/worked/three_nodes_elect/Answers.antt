use Rattle.quiet_cluster.proofs.ThreeRuns.{best, election, quiet}
use Rattle.quiet_cluster.proofs.worked.three_nodes_elect.Goals as goal

pub returns-clause-best : goal.returns-clause-best
returns-clause-best c = best

pub returns-clause-election : goal.returns-clause-election
returns-clause-election c = election

pub returns-clause-quiet : goal.returns-clause-quiet
returns-clause-quiet c = quiet
