-- Each by computation.
use Rattle.std.proofs.Common.{refl}
use Rattle.sql_answer.specs.Answers.{finish}
use Rattle.live_operations.proofs.facts.each_version_is_taken_once.Goals as goal

pub returns-clause-updated : goal.returns-clause-updated
unfolding finish
returns-clause-updated c = refl

pub returns-clause-deleted : goal.returns-clause-deleted
unfolding finish
returns-clause-deleted c = refl
