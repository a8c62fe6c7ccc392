-- Each by computation.
use Rattle.std.proofs.Common.{refl}
use Rattle.sql_answer.specs.Answers.{finish}
use Rattle.sql_answer.specs.Shapes.{shape}
use Rattle.sql_answer.proofs.facts.selectv_uses_what_it_finds.Goals as goal

pub returns : goal.returns
unfolding finish shape
returns c = refl
