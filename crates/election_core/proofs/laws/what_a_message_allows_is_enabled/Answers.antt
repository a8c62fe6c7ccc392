use Rattle.election_core.proofs.Allowing.{allowed_enabled}
use Rattle.election_core.proofs.laws.what_a_message_allows_is_enabled.Goals as goal

pub returns : goal.returns
returns g c = allowed_enabled
