use Rattle.cluster_steps.proofs.StepLaws.{legal_steps, heed_steps}
use Rattle.cluster_core.proofs.laws.a_runs_history_is_legal.Goals as goal

pub returns-clause-legal : goal.returns-clause-legal
returns-clause-legal c = legal_steps

pub returns-clause-by_script : goal.returns-clause-by_script
returns-clause-by_script c = heed_steps
