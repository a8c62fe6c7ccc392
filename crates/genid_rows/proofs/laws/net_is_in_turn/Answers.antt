use Rattle.genid_rows.proofs.InTurnLemmas.{same, begins, stays}
use Rattle.genid_rows.proofs.laws.net_is_in_turn.Goals as goal

pub returns-clause-same : goal.returns-clause-same
returns-clause-same c = same

pub returns-clause-begins : goal.returns-clause-begins
returns-clause-begins c = begins

pub returns-clause-stays : goal.returns-clause-stays
returns-clause-stays c = stays
