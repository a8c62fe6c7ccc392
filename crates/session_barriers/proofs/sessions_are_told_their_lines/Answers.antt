use Rattle.session_barriers.proofs.LineLaws.{comes, ends, goes_on, skips}
use Rattle.session_barriers.proofs.sessions_are_told_their_lines.Goals as goal

pub returns-clause-comes : goal.returns-clause-comes
returns-clause-comes c = comes

pub returns-clause-skips : goal.returns-clause-skips
returns-clause-skips c = skips

pub returns-clause-goes_on : goal.returns-clause-goes_on
returns-clause-goes_on c = goes_on

pub returns-clause-ends : goal.returns-clause-ends
returns-clause-ends c = ends
