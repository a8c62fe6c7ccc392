use Rattle.cluster_steps.proofs.StepLaws.{idle, idle_part}
use Rattle.cluster_steps.proofs.laws.who_does_nothing_stays.Goals as goal

pub returns-clause-node : goal.returns-clause-node
returns-clause-node c = idle

pub returns-clause-part : goal.returns-clause-part
returns-clause-part c = idle_part
