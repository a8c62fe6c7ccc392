use Rattle.cluster_decisions.proofs.DecisionLaws.{over_begin}
use Rattle.cluster_decisions.proofs.rows_over_a_begin_are_kept.Goals as goal

pub returns : goal.returns
returns c = over_begin
