use Rattle.report_worked.proofs.InsertSelectLemmas.{says_its_lines, insert_select_is_lawful, insert_select_is_in_order}
use Rattle.report_worked.proofs.facts.insert_select_is_lawful.Goals as goal

pub returns : goal.returns
returns c = record { text = says_its_lines; lawful = insert_select_is_lawful; order = insert_select_is_in_order }
