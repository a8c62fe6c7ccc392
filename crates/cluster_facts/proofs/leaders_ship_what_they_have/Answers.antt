use Rattle.cluster_facts.proofs.ToldLaws.{shipping, shipped_accepted, leads_accepted}
use Rattle.cluster_facts.proofs.leaders_ship_what_they_have.Goals as goal

pub returns-clause-ships : goal.returns-clause-ships
returns-clause-ships g c = shipping

pub returns-clause-accepted : goal.returns-clause-accepted
returns-clause-accepted g c = shipped_accepted

pub returns-clause-adopted : goal.returns-clause-adopted
returns-clause-adopted g c = leads_accepted
