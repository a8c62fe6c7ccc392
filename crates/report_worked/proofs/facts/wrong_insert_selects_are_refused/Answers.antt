use Rattle.report_worked.proofs.InsertSelectWrongLemmas.{wrong_value_is_refused, missing_row_is_refused, out_of_order_is_refused, early_row_is_refused, wrong_position_is_refused, entry_twice_is_refused, node_line_is_refused, lost_line_is_refused}
use Rattle.report_worked.proofs.facts.wrong_insert_selects_are_refused.Goals as goal

pub returns : goal.returns
returns c = record {
  wrong_value = wrong_value_is_refused;
  missing_row = missing_row_is_refused;
  out_of_order = out_of_order_is_refused;
  early_row = early_row_is_refused;
  wrong_position = wrong_position_is_refused;
  entry_twice = entry_twice_is_refused;
  node_line = node_line_is_refused;
  lost_line = lost_line_is_refused;
}
