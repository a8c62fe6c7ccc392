use Rattle.table_store.proofs.GoodLemmas.{stands_good}
use Rattle.table_store.proofs.laws.pages_that_stand_keep_their_keys.Goals as goal

pub returns-clause-kept : goal.returns-clause-kept
returns-clause-kept c = stands_good

pub returns-clause-good : goal.returns-clause-good
returns-clause-good c = λ pages tables rows stands fit. record { rows_fit = fit; keys_kept = stands_good pages tables rows stands }
