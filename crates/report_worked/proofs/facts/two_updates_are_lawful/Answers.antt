use Rattle.report_worked.proofs.TwoUpdatesLemmas.{two_updates_is_lawful, two_updates_is_in_order}
use Rattle.report_worked.proofs.TwoUpdatesWrongLemmas.{untouched_row_is_refused, refused_entry_is_refused}
use Rattle.report_worked.proofs.facts.two_updates_are_lawful.Goals as goal

pub returns : goal.returns
returns c = record { lawful = two_updates_is_lawful; order = two_updates_is_in_order; untouched_row = untouched_row_is_refused; refused_entry = refused_entry_is_refused }
