use Rattle.core_lists.proofs.Fronts.{front_either}
use Rattle.core_lists.proofs.fronts_of_one_log_agree.Goals as goal

pub returns : goal.returns
returns g c = λ xs ys zs p q. front_either p q
