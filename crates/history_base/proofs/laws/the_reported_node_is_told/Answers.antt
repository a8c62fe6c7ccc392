use Rattle.history_base.proofs.TailLaws.{reported_told}
use Rattle.history_base.proofs.laws.the_reported_node_is_told.Goals as goal

pub returns : goal.returns
returns c = reported_told
