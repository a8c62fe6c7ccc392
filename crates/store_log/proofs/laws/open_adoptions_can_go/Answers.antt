use Rattle.store_log.proofs.AdoptionLaws.{all_settle}
use Rattle.store_log.proofs.laws.open_adoptions_can_go.Goals as goal

pub returns : goal.returns
returns c = all_settle
