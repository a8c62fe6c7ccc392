use Rattle.session_standing.proofs.LineLaws.{level_alone, misplaced_commit, misplaced_rollback}
use Rattle.session_standing.proofs.lines_alone.Goals as goal
use Rattle.session_work.proofs.RunLaws.{noted}

pub returns-clause-commit : goal.returns-clause-commit
returns-clause-commit c = misplaced_commit

pub returns-clause-rollback : goal.returns-clause-rollback
returns-clause-rollback c = misplaced_rollback

pub returns-clause-level : goal.returns-clause-level
returns-clause-level c = level_alone

pub returns-clause-told : goal.returns-clause-told
returns-clause-told c = noted
