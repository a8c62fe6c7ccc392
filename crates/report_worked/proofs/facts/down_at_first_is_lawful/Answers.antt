use Rattle.report_worked.proofs.FaultLemmas.{down_at_first_is_lawful, down_at_first_is_in_order}
use Rattle.report_worked.proofs.FaultWrongLemmas.{opened_while_down_is_lawful, opened_while_down_is_not_in_order}
use Rattle.report_worked.proofs.facts.down_at_first_is_lawful.Goals as goal

pub returns : goal.returns
returns c = record { lawful = down_at_first_is_lawful; order = down_at_first_is_in_order; with_entry = opened_while_down_is_lawful; with_entry_order = opened_while_down_is_not_in_order }
