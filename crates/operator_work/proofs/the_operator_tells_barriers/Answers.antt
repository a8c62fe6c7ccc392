use Rattle.operator_work.proofs.DutyLaws.{may_tell, told_then}
use Rattle.operator_work.proofs.the_operator_tells_barriers.Goals as goal

pub returns-clause-may : goal.returns-clause-may
returns-clause-may c = may_tell

pub returns-clause-then : goal.returns-clause-then
returns-clause-then c = told_then
