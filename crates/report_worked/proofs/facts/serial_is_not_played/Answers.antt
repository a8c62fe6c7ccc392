use Rattle.report_worked.proofs.SerialLemmas.{serial_is_lawful, serial_is_not_in_order}
use Rattle.report_worked.proofs.facts.serial_is_not_played.Goals as goal

pub returns : goal.returns
returns c = record { lawful = serial_is_lawful; order = serial_is_not_in_order }
