use Rattle.history_base.proofs.TailLaws.{master_told}
use Rattle.history_base.proofs.laws.the_first_master_is_told.Goals as goal

pub returns : goal.returns
returns c = master_told
