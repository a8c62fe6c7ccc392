use Rattle.cluster_answers.proofs.BeginLaws.{begins_fresh}
use Rattle.cluster_answers.proofs.begin_lines_are_fresh.Goals as goal

pub returns : goal.returns
returns c = begins_fresh
