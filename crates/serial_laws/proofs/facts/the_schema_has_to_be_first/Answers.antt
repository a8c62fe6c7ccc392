-- Each by computation.
use Rattle.std.proofs.Common.{refl}
use Rattle.sql_answer.specs.Answers.{finish}
use Rattle.sql_answer.specs.Shapes.{shape}
use Rattle.serial_laws.proofs.facts.the_schema_has_to_be_first.Goals as goal

pub returns-clause-untouched : goal.returns-clause-untouched
unfolding finish shape
returns-clause-untouched c = refl

pub returns-clause-then : goal.returns-clause-then
unfolding finish shape
returns-clause-then c = refl

pub returns-clause-later : goal.returns-clause-later
unfolding finish shape
returns-clause-later c = refl
