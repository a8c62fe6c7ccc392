use Rattle.cluster_consensus.proofs.Laws.{begin}
use Rattle.cluster_consensus.proofs.Adopted.{adopted_from}
use Rattle.cluster_consensus.proofs.Kept.{always}
use Rattle.cluster_consensus.proofs.durable_logs.later_generations_keep_durable_logs.Goals as goal

pub returns-clause-kept : goal.returns-clause-kept
returns-clause-kept g c = begin

pub returns-clause-adopted : goal.returns-clause-adopted
returns-clause-adopted g c = λ n g m h d l legal dur hl lt. adopted_from (always n h legal) g d dur m l hl lt
