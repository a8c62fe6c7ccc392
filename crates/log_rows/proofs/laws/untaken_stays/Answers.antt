use Rattle.log_rows.proofs.HistoryLemmas.{stays}
use Rattle.log_rows.proofs.laws.untaken_stays.Goals as goal

pub returns : goal.returns
returns c = stays
