use Rattle.session_standing.proofs.LineLaws.{commit_at, goes_on, rollback_at, text_runs, text_stands}
use Rattle.session_standing.proofs.lines_of_a_transaction.Goals as goal

pub returns-clause-on : goal.returns-clause-on
returns-clause-on c = goes_on

pub returns-clause-due : goal.returns-clause-due
returns-clause-due c = text_runs

pub returns-clause-stands : goal.returns-clause-stands
returns-clause-stands c = text_stands

pub returns-clause-commit : goal.returns-clause-commit
returns-clause-commit c = commit_at

pub returns-clause-rollback : goal.returns-clause-rollback
returns-clause-rollback c = rollback_at
