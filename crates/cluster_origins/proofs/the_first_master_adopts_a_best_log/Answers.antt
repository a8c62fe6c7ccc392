use Rattle.cluster_origins.proofs.OriginLaws.{adopted_from, kept_from}
use Rattle.cluster_origins.proofs.the_first_master_adopts_a_best_log.Goals as goal

pub returns-clause-adopted : goal.returns-clause-adopted
returns-clause-adopted c = adopted_from

pub returns-clause-unmastered : goal.returns-clause-unmastered
returns-clause-unmastered c = kept_from
