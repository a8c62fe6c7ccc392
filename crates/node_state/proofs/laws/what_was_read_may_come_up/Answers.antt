use Rattle.node_state.proofs.FirstLaws.{first_wakes, never_up, told_up}
use Rattle.node_state.proofs.laws.what_was_read_may_come_up.Goals as goal

pub returns-clause-wakes : goal.returns-clause-wakes
returns-clause-wakes c = first_wakes

pub returns-clause-never_up : goal.returns-clause-never_up
returns-clause-never_up c = never_up

pub returns-clause-untold : goal.returns-clause-untold
returns-clause-untold c = told_up
