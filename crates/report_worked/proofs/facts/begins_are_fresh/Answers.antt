use Rattle.report_worked.proofs.InsertSelectWrongLemmas.{late_is_lawful, late_is_not_in_order, begin_too_old_is_refused}
use Rattle.report_worked.proofs.facts.begins_are_fresh.Goals as goal

pub returns : goal.returns
returns c = record { late = late_is_lawful; late_order = late_is_not_in_order; begin_too_old = begin_too_old_is_refused }
