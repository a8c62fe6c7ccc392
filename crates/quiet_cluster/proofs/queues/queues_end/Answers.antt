use Rattle.quiet_cluster.proofs.Loads.{falls, lighter_outcome}
use Rattle.quiet_cluster.proofs.Rounds.{fewer_up}
use Rattle.quiet_cluster.proofs.Runs.{run_down}
use Rattle.quiet_cluster.proofs.queues.queues_end.Goals as goal

pub returns-clause-answers : goal.returns-clause-answers
returns-clause-answers c = lighter_outcome

pub returns-clause-lighter : goal.returns-clause-lighter
returns-clause-lighter c = falls

pub returns-clause-fewer : goal.returns-clause-fewer
returns-clause-fewer x = λ n c at to q r low high was fell. fewer_up n c r low high was fell

pub returns-clause-down : goal.returns-clause-down
returns-clause-down c = λ k at to q r e. run_down k r e
