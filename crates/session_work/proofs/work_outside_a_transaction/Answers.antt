use Rattle.session_work.proofs.WorkLaws.{left_begin, left_level, left_own}
use Rattle.session_work.proofs.work_outside_a_transaction.Goals as goal

pub returns-clause-begin : goal.returns-clause-begin
returns-clause-begin c = left_begin

pub returns-clause-own : goal.returns-clause-own
returns-clause-own c = left_own

pub returns-clause-level : goal.returns-clause-level
returns-clause-level c = λ language number level later text texts is. left_level language number level text texts later is
