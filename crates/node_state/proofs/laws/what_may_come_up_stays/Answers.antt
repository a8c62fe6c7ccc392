use Rattle.node_state.proofs.WakeLaws.{wake_stays}
use Rattle.node_state.proofs.laws.what_may_come_up_stays.Goals as goal

pub returns : goal.returns
returns c = wake_stays
