-- Each by computation.
use Rattle.std.proofs.Common.{refl}
use Rattle.sql_answer.specs.Answers.{finish}
use Rattle.sql_answer.specs.Shapes.{shape}
use Rattle.serial_laws.proofs.facts.write_skew_is_seen.Goals as goal

pub returns-clause-read : goal.returns-clause-read
unfolding finish shape
returns-clause-read c = refl

pub returns-clause-touched : goal.returns-clause-touched
unfolding finish shape
returns-clause-touched c = refl

pub returns-clause-outside : goal.returns-clause-outside
unfolding finish shape
returns-clause-outside c = refl

pub returns-clause-then : goal.returns-clause-then
unfolding finish shape
returns-clause-then c = refl

pub returns-clause-later : goal.returns-clause-later
unfolding finish shape
returns-clause-later c = refl
