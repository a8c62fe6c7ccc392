use Rattle.report_worked.proofs.FaultLemmas.{lost_says_its_lines, lost_insert_is_lawful, lost_insert_is_in_order}
use Rattle.report_worked.proofs.facts.lost_insert_is_lawful.Goals as goal

pub returns : goal.returns
returns c = record { text = lost_says_its_lines; lawful = lost_insert_is_lawful; order = lost_insert_is_in_order }
