use Rattle.report_worked.proofs.WrongEntryLemmas.{split_insert_is_refused, rolled_entry_is_refused}
use Rattle.report_worked.proofs.facts.entries_are_told_whole.Goals as goal

pub returns : goal.returns
returns c = record { split = split_insert_is_refused; rolled = rolled_entry_is_refused }
