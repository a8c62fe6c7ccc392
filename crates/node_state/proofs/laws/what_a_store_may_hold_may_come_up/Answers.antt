use Rattle.node_state.proofs.LeftLaws.{down_as_left, fallen_as_left, fallen_leading, fallen_taking, fallen_appending}
use Rattle.node_state.proofs.laws.what_a_store_may_hold_may_come_up.Goals as goal

pub returns-clause-as_left : goal.returns-clause-as_left
returns-clause-as_left c = fallen_as_left

pub returns-clause-while_down : goal.returns-clause-while_down
returns-clause-while_down c = down_as_left

pub returns-clause-leading : goal.returns-clause-leading
returns-clause-leading c = fallen_leading

pub returns-clause-taking : goal.returns-clause-taking
returns-clause-taking c = fallen_taking

pub returns-clause-appending : goal.returns-clause-appending
returns-clause-appending c = fallen_appending
