use Rattle.session_work.proofs.WorkLaws.{left_commit, left_rollback, left_text}
use Rattle.session_work.proofs.work_in_a_transaction.Goals as goal

pub returns-clause-text : goal.returns-clause-text
returns-clause-text c = λ language number level before text texts is. (left_text language number level text texts before).2 is

pub returns-clause-commit : goal.returns-clause-commit
returns-clause-commit c = λ language number level before text texts is. left_commit language number level text texts before is

pub returns-clause-rollback : goal.returns-clause-rollback
returns-clause-rollback c = λ language number level before text texts is. left_rollback language number level text texts before is
