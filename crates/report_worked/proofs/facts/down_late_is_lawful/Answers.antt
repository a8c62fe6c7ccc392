use Rattle.std.proofs.Common.{refl}
use Rattle.report_worked.proofs.DownLateLemmas.{down_late_is_lawful, down_late_is_in_order, down_late_begins_up}
use Rattle.report_worked.proofs.facts.down_late_is_lawful.Goals as goal

pub returns : goal.returns
returns c = record { lawful = down_late_is_lawful; order = down_late_is_in_order; down = refl; none = refl; late = down_late_begins_up }
