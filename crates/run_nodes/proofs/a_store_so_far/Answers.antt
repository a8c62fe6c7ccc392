use Rattle.run_nodes.proofs.CallLaws.{call_keeps, wake_keeps}
use Rattle.run_nodes.proofs.a_store_so_far.Goals as goal

pub returns-clause-call : goal.returns-clause-call
returns-clause-call c = call_keeps

pub returns-clause-up : goal.returns-clause-up
returns-clause-up c = wake_keeps
