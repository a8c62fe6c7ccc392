use Rattle.session_sites.proofs.MoveLaws.{lacks_at_begin, lacks_at_commit, may_move}
use Rattle.session_sites.proofs.sessions_move.Goals as goal

pub returns-clause-move_on : goal.returns-clause-move_on
returns-clause-move_on c = may_move

pub returns-clause-lacks : goal.returns-clause-lacks
returns-clause-lacks c = lacks_at_begin

pub returns-clause-lacks_there : goal.returns-clause-lacks_there
returns-clause-lacks_there c = lacks_at_commit
