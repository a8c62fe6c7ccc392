use Rattle.report_worked.proofs.ResumedLemmas.{resumed_is_lawful, resumed_is_in_order, no_base_is_refused, other_base_is_refused}
use Rattle.report_worked.proofs.facts.resumed_report_is_lawful.Goals as goal

pub returns : goal.returns
returns c = record { lawful = resumed_is_lawful; order = resumed_is_in_order; no_base = no_base_is_refused; other_base = other_base_is_refused }
