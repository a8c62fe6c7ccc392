use Rattle.run_nodes.proofs.CloseLaws.{node_at_close, noted_at_close, operator_is_done, rests_till_the_close}
use Rattle.run_nodes.proofs.stores_at_the_close.Goals as goal

pub returns-clause-rests : goal.returns-clause-rests
returns-clause-rests c = rests_till_the_close

pub returns-clause-operator : goal.returns-clause-operator
returns-clause-operator c = operator_is_done

pub returns-clause-noted : goal.returns-clause-noted
returns-clause-noted c = noted_at_close

pub returns-clause-node : goal.returns-clause-node
returns-clause-node c = node_at_close
