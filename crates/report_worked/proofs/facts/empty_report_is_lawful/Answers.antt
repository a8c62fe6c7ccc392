use Rattle.report_worked.proofs.EmptyLemmas.{empty_is_lawful, empty_is_in_order, no_entry_is_not_in_order}
use Rattle.report_worked.proofs.facts.empty_report_is_lawful.Goals as goal

pub returns : goal.returns
returns c = record { lawful = empty_is_lawful; order = empty_is_in_order; no_entry = no_entry_is_not_in_order }
