-- Each by computation.
use Rattle.std.proofs.Common.{refl}
use Rattle.sql_answer.specs.Answers.{finish}
use Rattle.sql_answer.specs.Shapes.{shape}
use Rattle.sql_answer.proofs.facts.joins_are_grouped_and_ordered.Goals as goal

pub returns-clause-falling : goal.returns-clause-falling
unfolding finish shape
returns-clause-falling c = refl

pub returns-clause-rising : goal.returns-clause-rising
unfolding finish shape
returns-clause-rising c = refl

pub returns-clause-first : goal.returns-clause-first
unfolding finish shape
returns-clause-first c = refl

pub returns-clause-none : goal.returns-clause-none
unfolding finish shape
returns-clause-none c = refl

pub returns-clause-all : goal.returns-clause-all
unfolding finish shape
returns-clause-all c = refl
