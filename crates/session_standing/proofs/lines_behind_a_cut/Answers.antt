use Rattle.session_standing.proofs.LineLaws.{cut_at_begin, cut_stands, skipped, skipped_by_commit, skipped_by_rollback}
use Rattle.session_standing.proofs.lines_behind_a_cut.Goals as goal

pub returns-clause-begin : goal.returns-clause-begin
returns-clause-begin c = cut_at_begin

pub returns-clause-cut : goal.returns-clause-cut
returns-clause-cut c = cut_stands

pub returns-clause-skipped : goal.returns-clause-skipped
returns-clause-skipped c = skipped

pub returns-clause-commit : goal.returns-clause-commit
returns-clause-commit c = skipped_by_commit

pub returns-clause-rollback : goal.returns-clause-rollback
returns-clause-rollback c = skipped_by_rollback
