use Rattle.cluster_decisions.proofs.RefusalLaws.{refuses, repeats}
use Rattle.cluster_decisions.proofs.decided_answers_are_named.Goals as goal

pub returns-clause-refusals : goal.returns-clause-refusals
returns-clause-refusals c = refuses

pub returns-clause-repeats : goal.returns-clause-repeats
returns-clause-repeats c = repeats
