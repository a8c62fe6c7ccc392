use Rattle.session_losses.proofs.LossLaws.{may_lose}
use Rattle.session_losses.proofs.transactions_are_lost.Goals as goal

pub returns : goal.returns
returns c = may_lose
