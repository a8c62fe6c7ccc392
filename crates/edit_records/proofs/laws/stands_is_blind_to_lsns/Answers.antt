use Rattle.edit_records.proofs.BlindLemmas.{stands_alike}
use Rattle.edit_records.proofs.laws.stands_is_blind_to_lsns.Goals as goal

pub returns : goal.returns
returns c = stands_alike
