use Rattle.run_stores.proofs.BestLaws.{adopted_of, kept_of}
use Rattle.run_stores.proofs.the_first_master_adopts_the_log_of_a_best_store.Goals as goal

pub returns-clause-adopted : goal.returns-clause-adopted
returns-clause-adopted c = adopted_of

pub returns-clause-unmastered : goal.returns-clause-unmastered
returns-clause-unmastered c = kept_of
