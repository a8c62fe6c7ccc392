use Rattle.session_outcomes.proofs.SendLaws.{has_begun, has_more, has_rests}
use Rattle.session_outcomes.proofs.sessions_know_what_they_sent.Goals as goal

pub returns-clause-begun : goal.returns-clause-begun
returns-clause-begun c = has_begun

pub returns-clause-more : goal.returns-clause-more
returns-clause-more c = has_more

pub returns-clause-rests : goal.returns-clause-rests
returns-clause-rests c = has_rests
