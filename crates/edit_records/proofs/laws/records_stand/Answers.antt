use Rattle.edit_records.proofs.BlindLemmas.{records_still}
use Rattle.edit_records.proofs.laws.records_stand.Goals as goal

pub returns : goal.returns
returns c = records_still
