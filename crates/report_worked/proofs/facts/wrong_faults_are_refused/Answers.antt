use Rattle.report_worked.proofs.FaultWrongLemmas.{lost_twice_is_refused, lost_late_is_refused, short_while_up_is_refused, down_misnumbered_is_refused, down_twice_is_refused}
use Rattle.report_worked.proofs.facts.wrong_faults_are_refused.Goals as goal

pub returns : goal.returns
returns c = record {
  lost_twice = lost_twice_is_refused;
  lost_late = lost_late_is_refused;
  short_while_up = short_while_up_is_refused;
  down_misnumbered = down_misnumbered_is_refused;
  down_twice = down_twice_is_refused;
}
