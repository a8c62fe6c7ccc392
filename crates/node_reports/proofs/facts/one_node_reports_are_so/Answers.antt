use Rattle.node_reports.proofs.Firsts.{nodes_order}
use Rattle.node_reports.proofs.OneBack.{lawful_back}
use Rattle.node_reports.proofs.OneLawful.{lawful_of}
use Rattle.node_reports.proofs.OneOrder.{one_order}
use Rattle.node_reports.proofs.facts.one_node_reports_are_so.Goals as goal

pub returns : goal.returns
returns c = record {
  order = one_order;
  lawful = lawful_of;
  so = λ basis report of answers is order. (lawful_back basis report of answers is order, one_order basis report of order);
  back = λ basis report of answers is order. (lawful_of basis report of is, nodes_order basis report of answers is order);
}
