use Rattle.election_core.proofs.Acted.{acted_counted, counted_on}
use Rattle.election_core.proofs.told_laws.what_is_counted_stays_told.Goals as goal

pub returns-clause-acted : goal.returns-clause-acted
returns-clause-acted g c = acted_counted

pub returns-clause-others : goal.returns-clause-others
returns-clause-others g c = counted_on
