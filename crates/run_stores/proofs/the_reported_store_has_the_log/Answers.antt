use Rattle.run_stores.proofs.ReportedLaws.{pages_from, store_has}
use Rattle.run_stores.proofs.the_reported_store_has_the_log.Goals as goal

pub returns-clause-store : goal.returns-clause-store
returns-clause-store c = store_has

pub returns-clause-pages : goal.returns-clause-pages
returns-clause-pages c = pages_from
