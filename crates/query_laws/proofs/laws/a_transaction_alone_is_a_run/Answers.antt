use Rattle.query_laws.proofs.AloneLemmas.{alone_is_run}
use Rattle.query_laws.proofs.laws.a_transaction_alone_is_a_run.Goals as goal

pub returns : goal.returns
returns c = alone_is_run
