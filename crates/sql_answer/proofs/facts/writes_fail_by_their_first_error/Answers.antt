-- Each by computation.
use Rattle.std.proofs.Common.{refl}
use Rattle.sql_answer.specs.Answers.{finish}
use Rattle.sql_answer.proofs.facts.writes_fail_by_their_first_error.Goals as goal

pub returns-clause-overflow : goal.returns-clause-overflow
unfolding finish
returns-clause-overflow c = refl

pub returns-clause-done : goal.returns-clause-done
unfolding finish
returns-clause-done c = refl

pub returns-clause-one_row : goal.returns-clause-one_row
unfolding finish
returns-clause-one_row c = refl

pub returns-clause-first_row : goal.returns-clause-first_row
unfolding finish
returns-clause-first_row c = refl

pub returns-clause-inserted : goal.returns-clause-inserted
unfolding finish
returns-clause-inserted c = refl

pub returns-clause-state : goal.returns-clause-state
unfolding finish
returns-clause-state c = refl
