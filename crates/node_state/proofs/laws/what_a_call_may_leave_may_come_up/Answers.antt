use Rattle.node_state.proofs.StoreLaws.{append_left, any_stays, grow_left, lead_left, promise_left, stop_left, take_left}
use Rattle.node_state.proofs.laws.what_a_call_may_leave_may_come_up.Goals as goal

pub returns-clause-stopping : goal.returns-clause-stopping
returns-clause-stopping c = stop_left

pub returns-clause-promising : goal.returns-clause-promising
returns-clause-promising c = promise_left

pub returns-clause-leading : goal.returns-clause-leading
returns-clause-leading c = lead_left

pub returns-clause-taking : goal.returns-clause-taking
returns-clause-taking c = take_left

pub returns-clause-growing : goal.returns-clause-growing
returns-clause-growing c = grow_left

pub returns-clause-appending : goal.returns-clause-appending
returns-clause-appending c = append_left

pub returns-clause-stays : goal.returns-clause-stays
returns-clause-stays c = any_stays
