use Rattle.table_store.proofs.StateLaws.{one_state}
use Rattle.table_store.proofs.laws.pages_stand_for_one_state.Goals as goal

pub returns : goal.returns
returns c = record { one = one_state }
