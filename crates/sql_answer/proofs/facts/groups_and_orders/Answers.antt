-- Each by computation.
use Rattle.std.proofs.Common.{refl}
use Rattle.sql_answer.specs.Answers.{finish}
use Rattle.sql_answer.specs.Shapes.{shape}
use Rattle.sql_answer.proofs.facts.groups_and_orders.Goals as goal

pub returns-clause-groups : goal.returns-clause-groups
unfolding finish shape
returns-clause-groups c = refl

pub returns-clause-rising : goal.returns-clause-rising
unfolding finish shape
returns-clause-rising c = refl

pub returns-clause-falling : goal.returns-clause-falling
unfolding finish shape
returns-clause-falling c = refl

pub returns-clause-some : goal.returns-clause-some
unfolding finish shape
returns-clause-some c = refl

pub returns-clause-no_row : goal.returns-clause-no_row
unfolding finish shape
returns-clause-no_row c = refl

pub returns-clause-overflow : goal.returns-clause-overflow
unfolding finish shape
returns-clause-overflow c = refl
