use Rattle.query_laws.proofs.RunLaws.{answer_same, run_same}
use Rattle.query_laws.proofs.laws.answers_depend_on_what_is_read.Goals as goal

pub returns : goal.returns
returns c = record { answer = answer_same; run = run_same }
