use Rattle.session_outcomes.proofs.SendLaws.{alone_on, quiet, sent_alone}
use Rattle.session_outcomes.proofs.sessions_send_once.Goals as goal

pub returns-clause-unsent : goal.returns-clause-unsent
returns-clause-unsent c = λ G h s t o others far legal none left opened. quiet G far h s legal none t o others left opened

pub returns-clause-alone : goal.returns-clause-alone
returns-clause-alone c = sent_alone

pub returns-clause-stays : goal.returns-clause-stays
returns-clause-stays c = alone_on
