use Rattle.operator_work.proofs.DutyLaws.{may_obey, obeyed_then}
use Rattle.operator_work.proofs.the_operator_is_obeyed.Goals as goal

pub returns-clause-may : goal.returns-clause-may
returns-clause-may c = may_obey

pub returns-clause-then : goal.returns-clause-then
returns-clause-then c = obeyed_then
