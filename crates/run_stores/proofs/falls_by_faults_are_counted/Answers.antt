use Rattle.run_stores.proofs.FallLaws.{faults_told}
use Rattle.run_stores.proofs.falls_by_faults_are_counted.Goals as goal

pub returns : goal.returns
returns c = faults_told
