use Rattle.cluster_events.proofs.HistoryLaws.{steps as core_steps}
use Rattle.cluster_steps.specs.Named.{steps}
use Rattle.cluster_steps.proofs.StepLaws.{steps_length, legal_steps, heed_steps, core_legal, world_is}
use Rattle.cluster_steps.proofs.laws.named_histories_are_legal.Goals as goal

pub returns-clause-size : goal.returns-clause-size
returns-clause-size c = steps_length

pub returns-clause-legal : goal.returns-clause-legal
returns-clause-legal c = legal_steps

pub returns-clause-by_script : goal.returns-clause-by_script
returns-clause-by_script c = heed_steps

pub returns-clause-core : goal.returns-clause-core
returns-clause-core c = λ G h l. (core_steps (steps G h), core_legal G h l, world_is G h)
