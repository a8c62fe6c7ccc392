use Rattle.std.proofs.Common.{refl}
use Rattle.cluster_worked.proofs.NamedLaws.{run_legal}
use Rattle.cluster_worked.proofs.the_machine_may_run_it.Goals as goal

pub returns-clause-may : goal.returns-clause-may
returns-clause-may c = λ rows log. run_legal rows log

pub returns-clause-its_history : goal.returns-clause-its_history
returns-clause-its_history c = λ rows log. refl
