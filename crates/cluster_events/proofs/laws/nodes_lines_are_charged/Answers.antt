use Rattle.cluster_events.proofs.Charges.{charged}
use Rattle.cluster_events.proofs.laws.nodes_lines_are_charged.Goals as goal
use Rattle.cluster_events.specs.Settings.{lines_to_do}

pub returns : goal.returns
returns c = λ G h far all. charged G (lines_to_do G) far h all
