use Rattle.election_core.proofs.Missing.{enabled_without}
use Rattle.election_core.proofs.laws.a_message_that_allows_nothing_enables_nothing.Goals as goal

pub returns : goal.returns
returns g c = enabled_without
