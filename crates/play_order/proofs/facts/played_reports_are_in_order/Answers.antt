use Rattle.play_order.proofs.InOrder.{in_order, of_one_node}
use Rattle.play_order.proofs.facts.played_reports_are_in_order.Goals as goal

pub returns : goal.returns
returns c = record {
  order = in_order;
  one_node = of_one_node;
}
