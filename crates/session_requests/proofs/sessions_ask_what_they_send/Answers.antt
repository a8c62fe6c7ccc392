use Rattle.session_requests.proofs.AskLaws.{at_commit, of_texts, says}
use Rattle.session_requests.proofs.sessions_ask_what_they_send.Goals as goal

pub returns-clause-commits : goal.returns-clause-commits
returns-clause-commits c = at_commit

pub returns-clause-texts : goal.returns-clause-texts
returns-clause-texts c = of_texts

pub returns-clause-says : goal.returns-clause-says
returns-clause-says c = says
