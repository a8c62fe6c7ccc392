use Rattle.report_worked.proofs.FaultLemmas.{open_insert_is_lawful, open_insert_is_in_order}
use Rattle.report_worked.proofs.facts.open_insert_is_lawful.Goals as goal

pub returns : goal.returns
returns c = record { lawful = open_insert_is_lawful; order = open_insert_is_in_order }
