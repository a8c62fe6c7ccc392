use Rattle.phys_log.proofs.LogLaws.{page_first, page_whole}
use Rattle.phys_log.proofs.laws.first_entries_decide.Goals as goal

pub returns-clause-first : goal.returns-clause-first
returns-clause-first c = page_first

pub returns-clause-whole : goal.returns-clause-whole
returns-clause-whole c = page_whole
