-- By the law, and by computation.
use Rattle.std.proofs.Common.{refl}
use Rattle.live_operations.proofs.WorkedLemmas.{both_stay, one_went}
use Rattle.live_operations.proofs.facts.targets_have_to_stay.Goals as goal

pub returns-clause-more : goal.returns-clause-more
returns-clause-more c = refl

pub returns-clause-stays : goal.returns-clause-stays
returns-clause-stays c = both_stay

pub returns-clause-less : goal.returns-clause-less
returns-clause-less c = one_went
