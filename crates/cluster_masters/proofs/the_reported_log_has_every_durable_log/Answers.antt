use Rattle.cluster_consensus.proofs.Kept.{always}
use Rattle.cluster_masters.proofs.MasterLaws.{reported_has}
use Rattle.cluster_masters.proofs.the_reported_log_has_every_durable_log.Goals as goal

pub returns : goal.returns
returns g c = λ n r h d legal top dur. reported_has (always n h legal) r top dur.0 d dur.1
