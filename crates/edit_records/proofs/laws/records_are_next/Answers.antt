use Rattle.edit_records.proofs.AlikeLemmas.{records_next}
use Rattle.edit_records.proofs.laws.records_are_next.Goals as goal

pub returns : goal.returns
returns c = records_next
