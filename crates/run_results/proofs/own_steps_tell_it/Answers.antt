use Rattle.run_results.proofs.StepLaws.{faults_are, first_is, lengths_are}
use Rattle.run_results.proofs.own_steps_tell_it.Goals as goal

pub returns-clause-first : goal.returns-clause-first
returns-clause-first c = first_is

pub returns-clause-faults : goal.returns-clause-faults
returns-clause-faults c = faults_are

pub returns-clause-lengths : goal.returns-clause-lengths
returns-clause-lengths c = lengths_are
