use Rattle.session_losses.proofs.SeenLaws.{falls_seen}
use Rattle.session_losses.proofs.falls_are_seen.Goals as goal

pub returns : goal.returns
returns c = falls_seen
