use Rattle.cluster_consensus.proofs.StoresFit.{fits_again, fits_or_old}
use Rattle.cluster_consensus.proofs.Kept.{always}
use Rattle.cluster_consensus.proofs.stores.stores_fit_again.Goals as goal

pub returns-clause-again : goal.returns-clause-again
returns-clause-again g c = λ n k h pos legal. fits_again (always n h legal) pos k

pub returns-clause-new_or_old : goal.returns-clause-new_or_old
returns-clause-new_or_old g c = λ n k h legal. fits_or_old (always n h legal) k
