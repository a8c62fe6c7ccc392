use Rattle.phys_log.specs.Logs.{records_in, blank_pages}
use Rattle.phys_log.proofs.ReplayLaws.{lsn_is}
use Rattle.phys_log.proofs.LogLaws.{linked_at}
use Rattle.phys_log.proofs.laws.chains_are_linked.Goals as goal

pub returns-clause-linked : goal.returns-clause-linked
returns-clause-linked c = linked_at

pub returns-clause-lsn : goal.returns-clause-lsn
returns-clause-lsn c = λ entries id. lsn_is blank_pages (records_in entries) id
