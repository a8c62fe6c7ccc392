use Rattle.cluster_events.proofs.HistoryLaws.{all_may}
use Rattle.cluster_events.proofs.laws.acts_of_a_history_may_happen.Goals as goal

pub returns : goal.returns
returns c = all_may
