use Rattle.node_clusters.proofs.ChangeLaws.{changed_by_fall, changed_by_waking}
use Rattle.node_clusters.proofs.one_node_changes.Goals as goal

pub returns-clause-falls : goal.returns-clause-falls
returns-clause-falls c = changed_by_fall

pub returns-clause-wakes : goal.returns-clause-wakes
returns-clause-wakes c = changed_by_waking
