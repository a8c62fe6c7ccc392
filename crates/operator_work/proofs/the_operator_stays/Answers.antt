use Rattle.operator_work.proofs.DutyLaws.{at_first, rests}
use Rattle.operator_work.proofs.the_operator_stays.Goals as goal

pub returns-clause-first : goal.returns-clause-first
returns-clause-first c = at_first

pub returns-clause-rests : goal.returns-clause-rests
returns-clause-rests c = rests
