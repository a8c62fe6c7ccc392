-- By computation; two of the targets are one.
use Rattle.std.proofs.Common.{refl}
use Rattle.sql_answer.specs.Answers.{finish}
use Rattle.live_operations.proofs.facts.genids_have_to_be_distinct.Goals as goal

pub returns-clause-taken : goal.returns-clause-taken
unfolding finish
returns-clause-taken c = refl

pub returns-clause-refuted : goal.returns-clause-refuted
returns-clause-refuted c = λ live. (live.once 0).0.0 refl
