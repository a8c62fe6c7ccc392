use Rattle.session_sites.proofs.SiteLaws.{moves_there, rests_there, stays_there}
use Rattle.session_sites.proofs.sessions_keep_their_site.Goals as goal

pub returns-clause-rests : goal.returns-clause-rests
returns-clause-rests c = rests_there

pub returns-clause-stays : goal.returns-clause-stays
returns-clause-stays c = stays_there

pub returns-clause-moved : goal.returns-clause-moved
returns-clause-moved c = moves_there
