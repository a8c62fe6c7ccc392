use Rattle.node_reports.proofs.DownOnce.{down_once}
use Rattle.node_reports.proofs.facts.one_node_goes_down_once.Goals as goal

pub returns : goal.returns
returns c = record { once = down_once }
