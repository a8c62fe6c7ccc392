-- What the worked reports of one node tell stays so: those that are not in the order of play of one node are not in this.
use Rattle.std.proofs.Common.{refl}
use Rattle.report_worked.specs.Small.{from_nothing}
use Rattle.report_worked.specs.Worked.{insert_select, two_updates, nothing_said, lost_insert_report}
use Rattle.report_worked.specs.WorkedWrong.{late, serial, begun_behind, opened_while_down}
use Rattle.report_worked.proofs.InsertSelectWrongLemmas.{late_is_not_in_order}
use Rattle.report_worked.proofs.SerialLemmas.{serial_is_not_in_order}
use Rattle.report_worked.proofs.FaultLemmas.{lost_insert_is_lawful, lost_insert_is_in_order}
use Rattle.report_worked.proofs.FaultWrongLemmas.{begun_behind_is_not_in_order, opened_while_down_is_not_in_order}
use Rattle.node_reports.specs.OneNode.{IsOfOneNode}
use Rattle.node_reports.specs.Order.{InNodesOrder}
use Rattle.node_reports.proofs.OneOrder.{one_order}
use Rattle.node_reports.proofs.Firsts.{nodes_order}
use Rattle.report_worked.proofs.SmallLaws.{statements_answer}

insert_select_one : IsOfOneNode insert_select
insert_select_one = record { one = refl; unwatched = refl; unmoved = (refl, (refl, tt)); plain = ((refl, refl), ((refl, refl), tt)) }

two_updates_one : IsOfOneNode two_updates
two_updates_one = record { one = refl; unwatched = refl; unmoved = (refl, (refl, tt)); plain = ((refl, refl), ((refl, refl), ((refl, refl), ((refl, refl), ((refl, refl), ((refl, refl), ((refl, refl), tt))))))) }

nothing_said_one : IsOfOneNode nothing_said
nothing_said_one = record { one = refl; unwatched = refl; unmoved = (refl, (refl, tt)); plain = tt }

pub late_still : InNodesOrder (from_nothing insert_select) late → ⊥
late_still is = late_is_not_in_order (one_order (from_nothing insert_select) late insert_select_one is)

pub serial_still : InNodesOrder (from_nothing two_updates) serial → ⊥
serial_still is = serial_is_not_in_order (one_order (from_nothing two_updates) serial two_updates_one is)

pub begun_behind_still : InNodesOrder (from_nothing insert_select) begun_behind → ⊥
begun_behind_still is = begun_behind_is_not_in_order (one_order (from_nothing insert_select) begun_behind insert_select_one is)

pub opened_still : InNodesOrder (from_nothing nothing_said) opened_while_down → ⊥
opened_still is = opened_while_down_is_not_in_order (one_order (from_nothing nothing_said) opened_while_down nothing_said_one is)

pub lost_insert_still : InNodesOrder (from_nothing insert_select) lost_insert_report
lost_insert_still = nodes_order (from_nothing insert_select) lost_insert_report insert_select_one statements_answer lost_insert_is_lawful lost_insert_is_in_order
