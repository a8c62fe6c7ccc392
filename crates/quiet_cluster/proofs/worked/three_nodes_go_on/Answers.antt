use Rattle.quiet_cluster.proofs.ThreeRuns.{append, leads_still, few, arrival, quiet_again}
use Rattle.quiet_cluster.proofs.worked.three_nodes_go_on.Goals as goal

pub returns-clause-append : goal.returns-clause-append
returns-clause-append c = append

pub returns-clause-alone : goal.returns-clause-alone
returns-clause-alone c = leads_still

pub returns-clause-few : goal.returns-clause-few
returns-clause-few c = few

pub returns-clause-arrival : goal.returns-clause-arrival
returns-clause-arrival c = arrival

pub returns-clause-quiet : goal.returns-clause-quiet
returns-clause-quiet c = quiet_again
