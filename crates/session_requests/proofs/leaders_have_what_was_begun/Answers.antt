use Rattle.session_requests.proofs.LeaderLaws.{leader_rows, leader_tables}
use Rattle.session_requests.proofs.leaders_have_what_was_begun.Goals as goal

pub returns-clause-rows : goal.returns-clause-rows
returns-clause-rows c = leader_rows

pub returns-clause-tables : goal.returns-clause-tables
returns-clause-tables c = leader_tables
