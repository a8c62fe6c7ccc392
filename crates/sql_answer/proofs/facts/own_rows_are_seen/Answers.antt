-- Each by computation.
use Rattle.std.proofs.Common.{refl}
use Rattle.sql_answer.specs.Answers.{finish}
use Rattle.sql_answer.specs.Shapes.{shape}
use Rattle.sql_answer.proofs.facts.own_rows_are_seen.Goals as goal

pub returns-clause-seen : goal.returns-clause-seen
unfolding finish shape
returns-clause-seen c = refl

pub returns-clause-updated : goal.returns-clause-updated
unfolding finish shape
returns-clause-updated c = refl

pub returns-clause-deleted : goal.returns-clause-deleted
unfolding finish shape
returns-clause-deleted c = refl
